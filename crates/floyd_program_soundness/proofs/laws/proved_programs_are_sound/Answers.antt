use Rattle.floyd_program_soundness.proofs.Soundness.{proved_sound}
use Rattle.floyd_program_soundness.proofs.laws.proved_programs_are_sound.Goals as goal

pub returns : goal.returns
returns c = λ L proofs links small are bodies imported place m start n answers lawful. proved_sound L proofs links small are bodies imported place m start n answers lawful
