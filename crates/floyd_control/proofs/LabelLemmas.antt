-- Values of bits.
use Rattle.std.proofs.Common.{◌≡◌, ℕ, ◌-◌, ◌^◌, true, false, ◌&&◌, nat_le, pos, ◌-ℤ◌}
use Rattle.floyd_int.specs.declared.kinds.IntKind.{IntKind}
use Rattle.floyd_int.specs.Kind.{width, is_signed, value_of}

pub value_negative : (k : IntKind) (b : ℕ) → (is_signed k && nat_le (2 ^ (width k - 1)) b) ≡ true → value_of k b ≡ pos b -ℤ pos (2 ^ width k)
unfolding value_of
value_negative k b h = rw h

pub value_other : (k : IntKind) (b : ℕ) → (is_signed k && nat_le (2 ^ (width k - 1)) b) ≡ false → value_of k b ≡ pos b
unfolding value_of
value_other k b h = rw h
