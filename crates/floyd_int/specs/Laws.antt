-- What the bits of sums, differences and products are.
use Rattle.std.specs.Prelude.{◌≡◌, ℕ, ◌+◌, ◌-◌, ◌*◌, ◌%◌, ◌^◌, ◌<◌, ◌+ℤ◌, ◌-ℤ◌, ◌*ℤ◌}
use Rattle.floyd_int.specs.declared.kinds.IntKind.{IntKind}
use Rattle.floyd_int.specs.Kind.{width, repr_of, value_of}

-- the bits of a sum of values are the sum of their bits, modulo 2 to the width, whether the kind is signed or not
abbrev pub BitsOfSums : Type 0
BitsOfSums =
    (k : IntKind) (a b : ℕ) → a < 2 ^ width k → b < 2 ^ width k → repr_of k (value_of k a +ℤ value_of k b) ≡ (a + b) % 2 ^ width k

-- and so are those of a difference, where 2 to the width is lent
abbrev pub BitsOfDifferences : Type 0
BitsOfDifferences =
    (k : IntKind) (a b : ℕ) → a < 2 ^ width k → b < 2 ^ width k → repr_of k (value_of k a -ℤ value_of k b) ≡ (a + (2 ^ width k - b)) % 2 ^ width k

-- and those of a product
abbrev pub BitsOfProducts : Type 0
BitsOfProducts =
    (k : IntKind) (a b : ℕ) → a < 2 ^ width k → b < 2 ^ width k → repr_of k (value_of k a *ℤ value_of k b) ≡ (a * b) % 2 ^ width k
