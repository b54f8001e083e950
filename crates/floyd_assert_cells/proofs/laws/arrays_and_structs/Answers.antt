use Rattle.floyd_assert_cells.proofs.ObjectLaws.{arrays_cut, arrays_have_items, arrays_joined, structs_joined, structs_split}
use Rattle.floyd_assert_cells.proofs.laws.arrays_and_structs.Goals as goal

pub returns-clause-items : goal.returns-clause-items
returns-clause-items c = arrays_have_items

pub returns-clause-cut : goal.returns-clause-cut
returns-clause-cut c = arrays_cut

pub returns-clause-uncut : goal.returns-clause-uncut
returns-clause-uncut c = arrays_joined

pub returns-clause-split : goal.returns-clause-split
returns-clause-split c = structs_split

pub returns-clause-joined : goal.returns-clause-joined
returns-clause-joined c = structs_joined
