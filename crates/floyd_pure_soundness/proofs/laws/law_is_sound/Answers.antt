use Rattle.floyd_pure_laws.specs.ByLaw.{LawRow}
use Rattle.floyd_pure_laws.proofs.UsingLaws.{law_adding}
use Rattle.floyd_pure_soundness.proofs.Added.{adding_row}
use Rattle.floyd_pure_soundness.proofs.laws.law_is_sound.Goals as goal

pub returns : goal.returns
returns c = λ defs specs n g args goals hyps args_fit row h. adding_row LawRow law_adding defs specs n g args goals hyps args_fit row h
