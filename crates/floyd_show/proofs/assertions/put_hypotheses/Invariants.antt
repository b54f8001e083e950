use Rattle.std.proofs.Common.{◌≡◌, ◌+◌, ◌++◌, drop}
use Rattle.floyd_show.specs.Goals.{hypothesis_lines}
use Rattle.floyd_show.proofs.assertions.put_hypotheses.Given as goal

-- what was put, and what is left to put
abbrev pub invariant-formulas : goal.invariant-formulas
invariant-formulas l = l.out ++ hypothesis_lines (l.place + 1) (drop l.place l.formulas) ≡ l.initial.out ++ hypothesis_lines 1 l.formulas
