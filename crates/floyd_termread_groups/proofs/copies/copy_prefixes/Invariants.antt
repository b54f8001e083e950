use Rattle.std.proofs.Common.{◌≡◌, take}
use Rattle.floyd_termread_groups.proofs.copies.copy_prefixes.Given as goal

abbrev pub invariant-loop-prefix : goal.invariant-loop-prefix
invariant-loop-prefix l = l.copy ≡ take l.prefix-index l.prefixes
