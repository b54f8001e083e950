use Rattle.std.proofs.Common.{◌≡◌, ◌++◌, drop}
use Rattle.floyd_termread_forms.specs.Making.{step_shapes}
use Rattle.floyd_termread_formulas.proofs.paths.step_shapes.Given as goal

abbrev pub invariant-steps : goal.invariant-steps
invariant-steps l = l.all ++ step_shapes (drop l.place l.path) ≡ step_shapes l.path
