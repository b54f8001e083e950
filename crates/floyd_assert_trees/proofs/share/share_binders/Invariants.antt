use Rattle.std.proofs.Common.{◌≡◌, take}
use Rattle.floyd_assert_trees.proofs.share.share_binders.Given as goal

abbrev pub invariant-binders : goal.invariant-binders
invariant-binders l = l.all.items ≡ take l.binder-index l.binders
