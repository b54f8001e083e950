use Rattle.floyd_program_soundness.proofs.Examples as examples
use Rattle.floyd_program_soundness.proofs.laws.a_program_is_proved.Goals as goal

pub returns : goal.returns
returns c = examples.a_program_is_proved
