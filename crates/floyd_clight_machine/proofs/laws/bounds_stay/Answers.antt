use Rattle.floyd_clight_machine.proofs.Under.{bounds_under}
use Rattle.floyd_clight_machine.proofs.Bounded.{step_keeps, answer_keeps}
use Rattle.floyd_clight_machine.proofs.laws.bounds_stay.Goals as goal

pub returns-clause-steps : goal.returns-clause-steps
returns-clause-steps c = λ P d m b. step_keeps P d m b

pub returns-clause-answers : goal.returns-clause-answers
returns-clause-answers c = λ P ls m n k b. answer_keeps P ls m n k b

pub returns-clause-frames : goal.returns-clause-frames
returns-clause-frames c = λ P r d m b. bounds_under P r d m b
