use Rattle.std.proofs.Common.{◌≡◌, take}
use Rattle.floyd_termread_groups.proofs.copies.+copy_sort.Given as goal

abbrev pub invariant-loop-item : goal.invariant-loop-item
invariant-loop-item l = l.copy ≡ take l.item-index l.items
