use Rattle.floyd_part_laws.proofs.Regions.{defaulted}
use Rattle.floyd_part_laws.proofs.laws.parts_with_defaults.Goals as goal

pub returns : goal.returns
returns c = λ S env r u value d h place nested made holds. defaulted S env r u value d h place nested made holds
