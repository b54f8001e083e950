use Rattle.std.proofs.Common.{◌≡◌, ◌+◌, ◌*◌, length, drop}
use Rattle.floyd_tree.specs.Plain.{plains, height, heights}
use Rattle.floyd_tree.proofs.compare.+equal.Given as goal

abbrev pub decreases-equal : goal.decreases-equal
decreases-equal l = 2 * height l.a.now

abbrev pub decreases-equal_all : goal.decreases-equal_all
decreases-equal_all l = 2 * heights (plains l.a.now) + 1

abbrev pub invariant-equal_all-kids : goal.invariant-equal_all-kids
invariant-equal_all-kids l = (length l.a ≡ length l.b) × (drop l.i l.a ≡ drop l.i l.b)
