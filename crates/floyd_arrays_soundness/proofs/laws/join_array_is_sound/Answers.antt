use Rattle.floyd_arrays_soundness.proofs.JoiningArrays.{join_sound}
use Rattle.floyd_arrays_soundness.proofs.laws.join_array_is_sound.Goals as goal

pub returns : goal.returns
returns c = λ defs specs n g args goals formed asks row h. join_sound defs specs n g args goals formed row h
