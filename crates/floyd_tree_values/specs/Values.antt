-- Operators on values of the machine.
use Rattle.std.specs.Prelude.{◌^◌, Bool, true, false, ◌&&◌, nat_eq, ℤ, pos, ◌+ℤ◌}
use Rattle.floyd_int.specs.declared.kinds.Value.{Value}
use Rattle.floyd_int.specs.declared.kinds.Value.TheVariants.{Vundef, Vint, Vlong, Vptr}
use Rattle.floyd_int.specs.Kind.{modulo}
use Rattle.floyd_tree_values.specs.Numbers.{one_if}

-- z modulo the width
abbrev pub vint : ℤ → Value
vint z = Vint (modulo z (2 ^ 32))

abbrev pub vlong : ℤ → Value
vlong z = Vlong (modulo z (2 ^ 64))

-- the offset moved by z modulo 2 ^ 64; undefined unless the value is a pointer
abbrev pub ptr_add : Value → ℤ → Value
ptr_add (Vptr block offset) z = Vptr block (modulo (pos offset +ℤ z) (2 ^ 64))
ptr_add v z = Vundef

abbrev pub same_value : Value → Value → Bool
same_value Vundef Vundef = true
same_value (Vint m) (Vint n) = nat_eq m n
same_value (Vlong m) (Vlong n) = nat_eq m n
same_value (Vptr b m) (Vptr c n) = nat_eq b c && nat_eq m n
same_value v w = false

-- 1 where both are the same, and else 0
abbrev pub eqv : Value → Value → ℤ
eqv v w = one_if (same_value v w)
