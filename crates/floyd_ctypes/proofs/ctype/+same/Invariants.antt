use Rattle.std.proofs.Common.{◌≡◌, length, take}
use Rattle.floyd_ctypes.proofs.ctype.+same.Given as goal

-- the types so far are the same
abbrev pub invariant-all_same-types : goal.invariant-all_same-types
invariant-all_same-types l = record {
  long : length l.types ≡ length l.others;
  same : take l.i l.types ≡ take l.i l.others;
}
