use Rattle.floyd_pure_quantifiers.specs.Split.{SplitRow}
use Rattle.floyd_pure_quantifiers.proofs.Splitting.{split_true}
use Rattle.floyd_pure_soundness.proofs.Kept.{keeping_row}
use Rattle.floyd_pure_soundness.proofs.laws.split_is_sound.Goals as goal

pub returns : goal.returns
returns c = λ defs specs n pure args goals fit args_fit row h. keeping_row SplitRow split_true defs specs n pure args goals fit args_fit row h
