use Rattle.floyd_part_laws.proofs.Regions.{rerooted}
use Rattle.floyd_part_laws.proofs.laws.parts_at_their_addresses.Goals as goal

pub returns : goal.returns
returns c = λ S env r u value a h place nested made holds. rerooted S env r u value a h place nested made holds
