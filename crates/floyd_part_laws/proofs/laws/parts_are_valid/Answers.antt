use Rattle.floyd_part_laws.proofs.Regions.{valid_address}
use Rattle.floyd_part_laws.proofs.laws.parts_are_valid.Goals as goal

pub returns : goal.returns
returns c = λ S env r u value a bytes n h place nested made sized means some holds. valid_address S env r u value a bytes n h place nested made sized means some holds
