use Rattle.std.proofs.Common.{◌≡◌, take}
use Rattle.floyd_assert_trees.proofs.share.share_parts.Given as goal

abbrev pub invariant-parts : goal.invariant-parts
invariant-parts l = l.all.items ≡ take l.part-index l.parts
