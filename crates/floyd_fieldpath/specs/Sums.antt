-- Sums and products, which are folded where both sides are literals and the result is below 2 ^ 126, and moved pointers.
use Rattle.std.specs.Prelude.{◌^◌, Bool, false, ℤ, pos, ◌+ℤ◌, ◌*ℤ◌, nat_lt, unsigned_abs, Option, Some, None, Result, Ok, if◌then◌else◌}
use Rattle.std.specs.Ordering.{int_eq}
use Rattle.std.specs.Option.{option_map_or}
use Rattle.floyd_text.specs.declared.refusal.No.{No}
use Rattle.floyd_tree_sorts.specs.declared.heads.Head.{Head}
use Rattle.floyd_tree_sorts.specs.declared.heads.Head.TheVariants.{Literal}
use Rattle.floyd_tree_sorts.specs.declared.heads.Head.TheVariants as h
use Rattle.floyd_tree_sorts.specs.declared.operators.Operator.{Operator}
use Rattle.floyd_tree_sorts.specs.declared.operators.Operator.TheVariants.{Add, Mul, PtrAdd}
use Rattle.floyd_tree.specs.Plain.{Plain, At, Done, More, head_of}
use Rattle.floyd_fieldpath.specs.Nested.{literal}
use Rattle.floyd_fieldpath.specs.Written.{written}

abbrev pub number_of : Head → Option ℤ
number_of (Literal z) = Some z
number_of head = None

-- the number that a literal is
abbrev pub literal_in : Plain → Option ℤ
literal_in t = number_of (head_of t)

abbrev pub two : Operator → Plain → Plain → Plain
two operator a b = At (h.Operator operator) (More a (More b Done))

abbrev pub is_small : ℤ → Bool
is_small z = nat_lt (unsigned_abs z) (2 ^ 126)

-- the number, where it is small
abbrev pub small : Option ℤ → Option ℤ
small None = None
small (Some z) = if is_small z then Some z else None

-- the literal of a number, or else the term
abbrev pub literal_or : Option ℤ → Plain → Result Plain No
literal_or None t = written t
literal_or (Some z) t = Ok (literal z)

-- what both literals give
abbrev pub of_both : (ℤ → ℤ → ℤ) → Option ℤ → Option ℤ → Option ℤ
of_both f (Some x) (Some y) = Some (f x y)
of_both f a b = None

abbrev pub plus : Plain → Plain → Result Plain No
plus a b = literal_or (small (of_both (λ x y. x +ℤ y) (literal_in a) (literal_in b))) (two Add a b)

abbrev pub times : Plain → Plain → Result Plain No
times a b = literal_or (small (of_both (λ x y. x *ℤ y) (literal_in a) (literal_in b))) (two Mul a b)

abbrev pub is_zero : Plain → Bool
is_zero t = option_map_or (λ z. int_eq z (pos 0)) (literal_in t) false

-- a pointer moved by a number of bytes; moved by the literal 0 it is itself
abbrev pub moved : Plain → Plain → Result Plain No
moved p n = if is_zero n then Ok p else written (two PtrAdd p n)
