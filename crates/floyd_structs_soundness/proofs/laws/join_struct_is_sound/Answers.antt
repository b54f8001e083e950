use Rattle.floyd_structs_soundness.proofs.JoiningStructs.{join_sound}
use Rattle.floyd_structs_soundness.proofs.laws.join_struct_is_sound.Goals as goal

pub returns : goal.returns
returns c = λ defs specs n g args goals formed asks row h. join_sound defs specs n g args goals formed asks row h
