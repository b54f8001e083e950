use Rattle.floyd_assert_changes.specs.ChangesClauses.{changes_of}
use Rattle.floyd_assert_changes.proofs.Existentials.{next_told}
use Rattle.floyd_assert_changes.proofs.assertions.renamed_binder.Goals as goal

pub returns : goal.returns
returns c =
    next_told (changes_of c.args.by.now) c.args.a.now c.args.done.now c.args.place c.as_slice.result.now c.as_slice-2.result.now c.index-as_slice-place.result c.in_ok-name.name c.in_ok-sort.sort
    c.as_slice.ensures c.as_slice-2.ensures c.requires c.index-as_slice-place.is c.in_ok-name.ensures c.in_ok-sort.ensures
