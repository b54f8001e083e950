use Rattle.floyd_clight_machine.specs.Machine.{step}
use Rattle.floyd_clight_machine.proofs.Determined.{determined}
use Rattle.floyd_clight_machine.proofs.laws.steps_are_determined.Goals as goal

pub returns : goal.returns
returns c = λ P a d e f m n q x y. determined a (step P d m) e f n q x y
