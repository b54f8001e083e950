use Rattle.floyd_pure_quantifiers.specs.Inject.{InjectRow}
use Rattle.floyd_pure_quantifiers.proofs.Injecting.{inject_adding}
use Rattle.floyd_pure_soundness.proofs.Added.{adding_row}
use Rattle.floyd_pure_soundness.proofs.laws.inject_is_sound.Goals as goal

pub returns : goal.returns
returns c = λ defs specs n g args goals hyps args_fit row h. adding_row InjectRow inject_adding defs specs n g args goals hyps args_fit row h
