use Rattle.std.proofs.Common.{◌≡◌, length, take}
use Rattle.floyd_tree_sorts.proofs.sorts.same_sorts.Given as goal

abbrev pub invariant-sorts : goal.invariant-sorts
invariant-sorts l = (length l.a ≡ length l.b) × (take l.i l.a ≡ take l.i l.b)
