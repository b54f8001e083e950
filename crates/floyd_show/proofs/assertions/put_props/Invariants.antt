use Rattle.std.proofs.Common.{◌≡◌, ◌++◌, drop}
use Rattle.floyd_show.specs.Goals.{prop_lines}
use Rattle.floyd_show.proofs.assertions.put_props.Given as goal

-- what was put, and what is left to put
abbrev pub invariant-formulas : goal.invariant-formulas
invariant-formulas l = l.out ++ prop_lines (drop l.formula-index l.formulas) ≡ l.initial.out ++ prop_lines l.formulas
