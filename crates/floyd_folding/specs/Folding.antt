-- Terms of operators on numbers. Where the arguments are literals, and the number that they give is below 2 ^ 126 in
-- absolute value, the term is its literal.
use Rattle.std.specs.Prelude.{ℤ, ◌+ℤ◌, ◌-ℤ◌, ◌*ℤ◌, Option, Some, None, option_and_then, Result}
use Rattle.floyd_text.specs.declared.refusal.No.{No}
use Rattle.floyd_tree_sorts.specs.declared.heads.Head.{Head}
use Rattle.floyd_tree_sorts.specs.declared.heads.Head.TheVariants.{Signed, Unsigned}
use Rattle.floyd_tree_sorts.specs.declared.heads.Head.TheVariants as h
use Rattle.floyd_tree_sorts.specs.declared.operators.Operator.{Operator}
use Rattle.floyd_tree_sorts.specs.declared.operators.Operator.TheVariants.{Quot, Rem, Band, Bor, Bxor, Bnot, Shl, Shr, Eqz, Ltz, Lez, Add, Sub, Mul}
use Rattle.floyd_tree.specs.Plain.{Plain, At, Done, More}
use Rattle.floyd_tree_values.specs.Numbers.{quot, rem, signed, unsigned, band, bor, bxor, bnot, shl, shr, eqz, ltz, lez}
use Rattle.floyd_fieldpath.specs.Sums.{literal_in, literal_or, small, two}

-- the number that an operator gives of two numbers
abbrev pub number_of_two : Operator → ℤ → ℤ → Option ℤ
number_of_two Add x y = Some (x +ℤ y)
number_of_two Sub x y = Some (x -ℤ y)
number_of_two Mul x y = Some (x *ℤ y)
number_of_two Quot x y = Some (quot x y)
number_of_two Rem x y = Some (rem x y)
number_of_two Band x y = Some (band x y)
number_of_two Bor x y = Some (bor x y)
number_of_two Bxor x y = Some (bxor x y)
number_of_two Shl x y = Some (shl x y)
number_of_two Shr x y = Some (shr x y)
number_of_two Eqz x y = Some (eqz x y)
number_of_two Ltz x y = Some (ltz x y)
number_of_two Lez x y = Some (lez x y)
number_of_two operator x y = None

-- the number that a head gives of one number
abbrev pub number_of_one : Head → ℤ → Option ℤ
number_of_one (h.Operator Bnot) x = Some (bnot x)
number_of_one (Signed w) x = Some (signed w x)
number_of_one (Unsigned w) x = Some (unsigned w x)
number_of_one head x = None

-- what both literals give
abbrev pub of_literals : (ℤ → ℤ → Option ℤ) → Option ℤ → Option ℤ → Option ℤ
of_literals f (Some x) (Some y) = f x y
of_literals f a b = None

-- two numbers under an operator
abbrev pub folded : Operator → Plain → Plain → Result Plain No
folded operator a b = literal_or (small (of_literals (number_of_two operator) (literal_in a) (literal_in b))) (two operator a b)

-- a number under a head
abbrev pub folded_one : Head → Plain → Result Plain No
folded_one head a = literal_or (small (option_and_then (number_of_one head) (literal_in a))) (At head (More a Done))
