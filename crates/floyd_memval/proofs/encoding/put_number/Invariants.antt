use Rattle.std.proofs.Common.{◌≡◌, ℕ, ◌+◌, ◌++◌, length, take}
use Rattle.floyd_memval.specs.Encoding.{number_bytes}
use Rattle.floyd_memval.proofs.encoding.put_number.Given as goal

-- the bytes so far and those of the rest are those of the whole
abbrev pub invariant-places : goal.invariant-places
invariant-places l =
    (n : ℕ) → l.place-index + n ≡ length l.into → take l.place-index l.into ++ number_bytes n l.rest ≡ number_bytes (length l.fn.into) l.bits
