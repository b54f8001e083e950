use Rattle.floyd_unfolding_soundness.proofs.Sound.{unfold_fun_sound}
use Rattle.floyd_unfolding_soundness.proofs.laws.unfold_fun_is_sound.Goals as goal

pub returns : goal.returns
returns c = λ defs specs n goal args goals items formed asks row h. unfold_fun_sound defs specs n goal args goals items formed row h
