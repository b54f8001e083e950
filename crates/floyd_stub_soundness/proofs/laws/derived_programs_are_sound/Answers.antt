use Rattle.floyd_stub_soundness.proofs.MainSound.{main_sound}
use Rattle.floyd_stub_soundness.proofs.laws.derived_programs_are_sound.Goals as goal

pub returns : goal.returns
returns c = main_sound
