use Rattle.std.proofs.Common.{◌≡◌, drop}
use Rattle.floyd_clauses.specs.Clauses.{case_for}
use Rattle.floyd_play_reading.proofs.expecting.case_for.Given as goal

abbrev pub invariant-cases : goal.invariant-cases
invariant-cases l = case_for (drop l.case-index l.cases) l.t ≡ case_for l.cases l.t
