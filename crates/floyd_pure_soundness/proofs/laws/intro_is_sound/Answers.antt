use Rattle.floyd_pure_quantifiers.specs.Intro.{IntroRow}
use Rattle.floyd_pure_quantifiers.proofs.IntroTrue.{intro_true}
use Rattle.floyd_pure_soundness.proofs.Kept.{keeping_row}
use Rattle.floyd_pure_soundness.proofs.laws.intro_is_sound.Goals as goal

pub returns : goal.returns
returns c = λ defs specs n pure args goals fit args_fit row h. keeping_row IntroRow intro_true defs specs n pure args goals fit args_fit row h
