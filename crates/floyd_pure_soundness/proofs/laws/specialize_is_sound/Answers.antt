use Rattle.floyd_pure_quantifiers.specs.Specialize.{SpecializeRow}
use Rattle.floyd_pure_quantifiers.proofs.Instancing.{specialize_adding}
use Rattle.floyd_pure_soundness.proofs.Added.{adding_row}
use Rattle.floyd_pure_soundness.proofs.laws.specialize_is_sound.Goals as goal

pub returns : goal.returns
returns c = λ defs specs n g args goals hyps args_fit row h. adding_row SpecializeRow specialize_adding defs specs n g args goals hyps args_fit row h
