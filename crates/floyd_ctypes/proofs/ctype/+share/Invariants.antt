use Rattle.std.proofs.Common.{◌≡◌, take}
use Rattle.floyd_ctypes.proofs.ctype.+share.Given as goal

-- the types so far are shared
abbrev pub invariant-share_all-types : goal.invariant-share_all-types
invariant-share_all-types l = l.all ≡ take l.t-index l.types
