use Rattle.floyd_padding_laws.proofs.Filled.{filled_is_joined, filled_is_split}
use Rattle.floyd_padding_laws.proofs.laws.structs_without_padding.Goals as goal

pub returns-clause-split : goal.returns-clause-split
returns-clause-split c = filled_is_split

pub returns-clause-joined : goal.returns-clause-joined
returns-clause-joined c = filled_is_joined
