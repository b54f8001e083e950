use Rattle.std.proofs.Common.{◌≡◌, ◌++◌, drop, map}
use Rattle.floyd_entail.specs.Facts.{step_shape}
use Rattle.floyd_entail.proofs.facts.step_shapes.Given as goal

abbrev pub invariant-steps : goal.invariant-steps
invariant-steps l = l.all ++ map step_shape (drop l.place l.path) ≡ map step_shape l.path
