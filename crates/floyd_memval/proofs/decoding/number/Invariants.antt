use Rattle.std.proofs.Common.{◌≡◌, ◌-◌, ◌^◌, ◌<◌, Some, drop, length}
use Rattle.floyd_memval.specs.Decoding.{number_in}
use Rattle.floyd_memval.proofs.decoding.number.Given as goal

-- the number of the bytes from here on
abbrev pub invariant-bytes : goal.invariant-bytes
invariant-bytes l = (number_in (drop l.i l.from) ≡ Some l.bits) × (l.bits < 256 ^ (length l.from - l.i))
