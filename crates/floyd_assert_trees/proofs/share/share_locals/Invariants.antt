use Rattle.std.proofs.Common.{◌≡◌, take}
use Rattle.floyd_assert_trees.proofs.share.share_locals.Given as goal

abbrev pub invariant-locals : goal.invariant-locals
invariant-locals l = l.all.items ≡ take l.local-index l.locals
