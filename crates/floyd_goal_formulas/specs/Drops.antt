-- Which formulas need no proof: those that are true at once, and those that a hypothesis gives at once.
use Rattle.std.specs.Prelude.{◌≡◌, ◌⊎◌, ◌^◌, ◌-◌, Bool, true, false, ◌&&◌, ◌||◌, if◌then◌else◌, List, [], ◌∷◌, Option, Some, None, ℤ, pos, int_le}
use Rattle.floyd_int.specs.declared.kinds.IntKind.{IntKind}
use Rattle.floyd_int.specs.declared.kinds.IntKind.TheVariants.{I8, U8, I16, U16, I32, U32, I64, U64}
use Rattle.floyd_int.specs.Kind as k
use Rattle.floyd_tree_sorts.specs.declared.heads.Head.{Head}
use Rattle.floyd_tree_sorts.specs.declared.heads.Head.TheVariants.{Gv, Lv, Signed, Unsigned, Operator}
use Rattle.floyd_tree_sorts.specs.declared.heads.Width.TheVariants.{Bits8, Bits16}
use Rattle.floyd_tree_sorts.specs.declared.operators.Operator as o
use Rattle.floyd_tree_sorts.specs.declared.operators.Operator.TheVariants.{Vint, Vlong, Nullval, Eqz, Ltz, Lez, Eqv, Len}
use Rattle.floyd_tree_sorts.specs.declared.shape.Shape.{Shape, Int, Pointer'}
use Rattle.floyd_tree_sorts.specs.Prints.{width_number}
use Rattle.floyd_tree.specs.Formulas.{PlainFormula}
use Rattle.floyd_tree.specs.Plain.{Plain, head_of, kids_of}
use Rattle.floyd_tree_values.specs.Numbers.{signed_kind}
use Rattle.floyd_truth.specs.Same.{SameFormula}
use Rattle.floyd_goal_formulas.specs.Known.{literal_of, known}
use Rattle.floyd_goal_formulas.specs.Said.{Saying, Equation, Inequality, Pointer, NotUndefined, OfType, one_of, said}

-- 0 or 1
abbrev pub is_bit : o.Operator → Bool
is_bit Eqz = true
is_bit Ltz = true
is_bit Lez = true
is_bit Eqv = true
is_bit operator = false

abbrev pub operator_least : o.Operator → Option ℤ
operator_least Len = Some (pos 0)
operator_least operator = if is_bit operator then Some (pos 0) else None

abbrev pub operator_greatest : o.Operator → Option ℤ
operator_greatest operator = if is_bit operator then Some (pos 1) else None

-- the bounds of the numbers that a head gives, where it has some
abbrev pub least : Head → Option ℤ
least (Signed w) = Some (k.least (signed_kind w))
least (Unsigned w) = Some (pos 0)
least (Operator operator) = operator_least operator
least head = None

abbrev pub greatest : Head → Option ℤ
greatest (Signed w) = Some (k.greatest (signed_kind w))
greatest (Unsigned w) = Some (pos (2 ^ width_number w - 1))
greatest (Operator operator) = operator_greatest operator
greatest head = None

abbrev pub are_ordered : Option ℤ → Option ℤ → Bool
are_ordered None n = false
are_ordered (Some m) None = false
are_ordered (Some m) (Some n) = int_le m n

-- a <= b where one side is a literal, and the head of the other side bounds it
abbrev pub is_bounded : Plain → Plain → Bool
is_bounded a b = are_ordered (literal_of a) (least (head_of b)) || are_ordered (greatest (head_of a)) (literal_of b)

-- gv or lv
abbrev pub is_place : Head → Bool
is_place (Gv x) = true
is_place (Lv x) = true
is_place head = false

abbrev pub is_vint : Head → Bool
is_vint (Operator Vint) = true
is_vint head = false

abbrev pub is_vlong : Head → Bool
is_vlong (Operator Vlong) = true
is_vlong head = false

abbrev pub is_null : Head → Bool
is_null (Operator Nullval) = true
is_null head = false

-- whether a number is taken modulo the width of this kind, which has 8 or 16 bits, and with its sign
abbrev pub is_narrow : IntKind → Head → Bool
is_narrow I8 (Signed Bits8) = true
is_narrow U8 (Unsigned Bits8) = true
is_narrow I16 (Signed Bits16) = true
is_narrow U16 (Unsigned Bits16) = true
is_narrow kind head = false

abbrev pub narrow_in : IntKind → Option Plain → Bool
narrow_in kind None = false
narrow_in kind (Some t) = is_narrow kind (head_of t)

-- a Vint of 32 bits, a Vlong of 64, or a Vint of a number that is taken modulo the width of the kind
abbrev pub is_of_kind : IntKind → Plain → Bool
is_of_kind I32 v = is_vint (head_of v)
is_of_kind U32 v = is_vint (head_of v)
is_of_kind I64 v = is_vlong (head_of v)
is_of_kind U64 v = is_vlong (head_of v)
is_of_kind kind v = is_vint (head_of v) && narrow_in kind (one_of (kids_of v))

-- of a type of this shape: of an integer's kind, or null or a place where the type is a pointer's
abbrev pub is_of_type : Shape → Plain → Bool
is_of_type (Int kind) v = is_of_kind kind v
is_of_type (Pointer' p target) v = is_null (head_of v) || is_place (head_of v)
is_of_type shape v = false

-- Vint, Vlong, nullval, gv or lv
abbrev pub is_made : Head → Bool
is_made head = is_vint head || (is_vlong head || (is_null head || is_place head))

-- What is true by itself: an equation of identical terms, an inequality of a literal and a term whose head bounds it, a
-- place is a pointer, a value that is made so is defined, and one has its type by its form.
abbrev pub Alone : Saying → Type 0
Alone (Equation a b) = a ≡ b
Alone (Inequality a b) = is_bounded a b ≡ true
Alone (Pointer v) = is_place (head_of v) ≡ true
Alone (NotUndefined v) = is_made (head_of v) ≡ true
Alone (OfType shape v) = is_of_type shape v ≡ true
Alone saying = ⊥

abbrev pub is_pointer_type : Shape → Bool
is_pointer_type (Pointer' p target) = true
is_pointer_type shape = false

-- a <= b gives c <= d where both bound an identical term, which is no literal, by a literal, and the first one is as
-- strong at least
abbrev pub Bounds : Plain → Plain → Plain → Plain → Type 0
Bounds a b c d =
    ((b ≡ d) × (literal_of d ≡ None) × (are_ordered (literal_of c) (literal_of a) ≡ true))
    ⊎ ((a ≡ c) × (literal_of c ≡ None) × (are_ordered (literal_of b) (literal_of d) ≡ true))

-- A hypothesis gives a formula: a bound a weaker bound; that v is a pointer, or null, that it has a pointer's type and is
-- defined; and that v has a type, that it is defined.
abbrev pub GivesSaid : Saying → Saying → Type 0
GivesSaid (Inequality a b) (Inequality c d) = Bounds a b c d
GivesSaid (Pointer v) (OfType shape w) = (v ≡ w) × (is_pointer_type shape ≡ true)
GivesSaid (Equation v n) (OfType shape w) = (v ≡ w) × (is_null (head_of n) ≡ true) × (is_pointer_type shape ≡ true)
GivesSaid (Pointer v) (NotUndefined w) = v ≡ w
GivesSaid (Equation v n) (NotUndefined w) = (v ≡ w) × (is_null (head_of n) ≡ true)
GivesSaid (OfType shape v) (NotUndefined w) = v ≡ w
GivesSaid a b = ⊥

-- a hypothesis is identical to the formula up to bound names, or gives it
abbrev pub Given : List PlainFormula → PlainFormula → Type 0
Given [] f = ⊥
Given (h ∷ hs) f = (SameFormula h f ⊎ GivesSaid (said h) (said f)) ⊎ Given hs f

-- The formula needs no proof under these hypotheses: it is true by itself, or by the literals in it, or a hypothesis gives
-- it.
abbrev pub Drops : List PlainFormula → PlainFormula → Type 0
Drops hs f = Alone (said f) ⊎ ((known f ≡ Some true) ⊎ Given hs f)
