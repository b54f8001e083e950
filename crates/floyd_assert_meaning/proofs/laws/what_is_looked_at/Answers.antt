use Rattle.floyd_assert_meaning.specs.Laws.{MeansSo}
use Rattle.floyd_assert_meaning.proofs.Free.{means_agree, truth_agrees}
use Rattle.floyd_assert_meaning.proofs.Related.{part_goes}
use Rattle.floyd_assert_meaning.proofs.laws.what_is_looked_at.Goals as goal

pub returns-clause-terms : goal.returns-clause-terms
returns-clause-terms c = λ defs env f g t d k m. means_agree defs env f g t k d m

pub returns-clause-formulas : goal.returns-clause-formulas
returns-clause-formulas c = λ defs specs env f g p k m. truth_agrees defs specs env f g p k m

pub returns-clause-parts : goal.returns-clause-parts
returns-clause-parts c = λ S env f g p q h a m. part_goes S env f g (MeansSo S.defs env f g) (λ t u r. r) p q h a m
