use Rattle.std.proofs.Common.{◌≡◌, drop}
use Rattle.floyd_unfolding.specs.Calls.{case_for}
use Rattle.floyd_unfolding.proofs.calls.case_for.Given as goal

abbrev pub invariant-cases : goal.invariant-cases
invariant-cases l = case_for (drop l.case-index l.cases) l.t ≡ case_for l.cases l.t
