use Rattle.std.proofs.Common.{◌≡◌, length, take}
use Rattle.floyd_tree_sorts.proofs.connectives.same_steps.Given as goal

abbrev pub invariant-steps : goal.invariant-steps
invariant-steps l = (length l.a ≡ length l.b) × (take l.i l.a ≡ take l.i l.b)
