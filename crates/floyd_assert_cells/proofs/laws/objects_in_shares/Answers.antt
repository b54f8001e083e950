use Rattle.floyd_assert_cells.proofs.ObjectLaws.{padding_joined, padding_split, shares_joined, shares_split}
use Rattle.floyd_assert_cells.proofs.laws.objects_in_shares.Goals as goal

pub returns-clause-split : goal.returns-clause-split
returns-clause-split c = shares_split

pub returns-clause-joined : goal.returns-clause-joined
returns-clause-joined c = shares_joined

pub returns-clause-padding_split : goal.returns-clause-padding_split
returns-clause-padding_split c = padding_split

pub returns-clause-padding_joined : goal.returns-clause-padding_joined
returns-clause-padding_joined c = padding_joined
