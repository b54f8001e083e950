-- What an expression stands for, row by row: from the numbers or the values of its operands a term, its own side formulas,
-- and the terms that must be valid for it. They stand behind those of the operands.
use Rattle.std.specs.Prelude.{Bool, true, false, ◌&&◌, List, [], ◌∷◌, ◌++◌, ℤ, pos, negsuc, Option, Some, None, Result, Ok, Err, if◌then◌else◌}
use Rattle.floyd_text.specs.declared.code.Code.TheVariants.{NotNumber, NoBase}
use Rattle.floyd_text.specs.declared.refusal.No.{No}
use Rattle.floyd_text.specs.declared.refusal.Shown.TheVariants.{Nothing}
use Rattle.floyd_int.specs.declared.kinds.IntKind.{IntKind}
use Rattle.floyd_int.specs.declared.kinds.IntKind.TheVariants.{I8, U8, I16, U16, I32, U32, I64, U64}
use Rattle.floyd_int.specs.declared.kinds.IntOp.{IntOp}
use Rattle.floyd_int.specs.declared.kinds.IntOp.TheVariants as c
use Rattle.floyd_int.specs.Kind.{width, is_signed, least, greatest}
use Rattle.floyd_ctypes.specs.declared.ctype.CType.{CType}
use Rattle.floyd_tree_sorts.specs.declared.heads.Head.{Head}
use Rattle.floyd_tree_sorts.specs.declared.heads.Head.TheVariants.{Signed, Unsigned}
use Rattle.floyd_tree_sorts.specs.declared.heads.Head.TheVariants as h
use Rattle.floyd_tree_sorts.specs.declared.heads.Width.{Width}
use Rattle.floyd_tree_sorts.specs.declared.heads.Width.TheVariants.{Bits8, Bits16}
use Rattle.floyd_tree_sorts.specs.declared.operators.Operator.{Operator}
use Rattle.floyd_tree_sorts.specs.declared.operators.Operator.TheVariants.{Vint, Vlong, Nullval, Quot, Rem, Band, Bor, Bxor, Bnot, Shl, Shr, Eqz, Ltz, Lez, Add, Sub, Mul}
use Rattle.floyd_tree.specs.Formulas.{PlainFormula}
use Rattle.floyd_tree.specs.Plain.{Plain, At, Done}
use Rattle.floyd_fieldpath.specs.Nested.{literal, sized_type}
use Rattle.floyd_fieldpath.specs.Projections.{kid_under, one}
use Rattle.floyd_fieldpath.specs.Sums.{plus}
use Rattle.floyd_fieldpath.specs.Written.{written, on_ok}
use Rattle.floyd_folding.specs.Folding.{folded, folded_one}
use Rattle.floyd_symexpr_rows.specs.declared.needs.Needs.{Needs}
use Rattle.floyd_symexpr_rows.specs.declared.needs.Number.{Number}
use Rattle.floyd_symexpr_rows.specs.Formulas.{at_most, different, either, of_type, saying}

-- Refusals.

-- an operand is no number of its width
abbrev pub not_number : No
not_number = record { code = NotNumber; shown = Nothing }

-- two pointers are compared that are not known to lie in one object
abbrev pub no_base : No
no_base = record { code = NoBase; shown = Nothing }

-- What an expression needs: formulas that must be true, and terms that must be valid, each behind those before it.

abbrev pub nothing_needed : Needs
nothing_needed = record { sides = []; valid = [] }

-- What a row gives: a term, and its own formulas behind what its operands need.
abbrev pub row : Result Plain No → List PlainFormula → Needs → Result (Plain × Needs) No
row term sides needs = on_ok term (λ t. on_ok (saying needs.sides sides) (λ all. Ok (t, record needs { sides = all })))

-- Numbers as values.

-- the kinds of 64 bits
abbrev pub is_long : IntKind → Bool
is_long I64 = true
is_long U64 = true
is_long k = false

abbrev pub value_operator : IntKind → Operator
value_operator k = if is_long k then Vlong else Vint

-- the value of a kind that a number stands for: Vlong of 64 bits, and else Vint
abbrev pub value_of_kind : IntKind → Plain → Result Plain No
value_of_kind k n = written (one (value_operator k) n)

-- comparisons and casts to fewer bits give a Vint
abbrev pub vint : Plain → Result Plain No
vint n = written (one Vint n)

abbrev pub is_vint : Head → Bool
is_vint (h.Operator Vint) = true
is_vint head = false

abbrev pub is_vlong : Head → Bool
is_vlong (h.Operator Vlong) = true
is_vlong head = false

abbrev pub number_under : IntKind → Plain → Option Plain
number_under k t = if is_long k then kid_under is_vlong 0 t else kid_under is_vint 0 t

abbrev pub or_no_number : IntKind → Option Plain → Result Number No
or_no_number k None = Err not_number
or_no_number k (Some n) = Ok (record { kind = k; term = n })

-- the number of an operand of the kind, whose term must be the value of one
abbrev pub number : IntKind → Plain → Result Number No
number k t = or_no_number k (number_under k t)

-- the number is one of the kind
abbrev pub range : IntKind → Plain → List PlainFormula
range k n = at_most (literal (least k)) n ∷ at_most n (literal (greatest k)) ∷ []

abbrev pub ranges : Number → Number → List PlainFormula
ranges a b = range a.kind a.term ++ range b.kind b.term

-- Constants.

abbrev pub constant : IntKind → ℤ → Result Plain No
constant k z = value_of_kind k (literal z)

-- also what the constant 0 cast to a pointer is
abbrev pub null : Plain
null = At (h.Operator Nullval) Done

-- Operators on numbers. Where both operands must have one kind, it is that of the left one.

-- `+`, `-` and `*`: no signed result may overflow
abbrev pub arithmetic : Operator → Number → Number → Needs → Result (Plain × Needs) No
arithmetic operator a b needs =
    on_ok (folded operator a.term b.term) (λ n. row (value_of_kind a.kind n) (if is_signed a.kind then ranges a b ++ range a.kind n else []) needs)

-- `-a`
abbrev pub negation : Number → Needs → Result (Plain × Needs) No
negation a needs =
    on_ok (folded Sub (literal (pos 0)) a.term) (λ n. row (value_of_kind a.kind n) (if is_signed a.kind then range a.kind a.term ++ range a.kind n else []) needs)

-- the least value of a signed kind is not divided by -1
abbrev pub no_overflow : Number → Number → List PlainFormula
no_overflow a b =
    if is_signed a.kind then either (different a.term (literal (least a.kind))) (different b.term (literal (negsuc 0))) ∷ [] else []

-- `/` and `%`
abbrev pub division : Operator → Number → Number → Needs → Result (Plain × Needs) No
division operator a b needs =
    on_ok (folded operator a.term b.term) (λ n. row (value_of_kind a.kind n) (ranges a b ++ different b.term (literal (pos 0)) ∷ no_overflow a b) needs)

-- `&`, `|` and `^`
abbrev pub bitwise : Operator → Number → Number → Needs → Result (Plain × Needs) No
bitwise operator a b needs = on_ok (folded operator a.term b.term) (λ n. row (value_of_kind a.kind n) (ranges a b) needs)

-- `~a`
abbrev pub complement : Number → Needs → Result (Plain × Needs) No
complement a needs = on_ok (folded_one (h.Operator Bnot) a.term) (λ n. row (value_of_kind a.kind n) (range a.kind a.term) needs)

-- the amount of a shift is at least 0 and below the width of what is shifted
abbrev pub amount_fits : Number → Number → Plain → List PlainFormula
amount_fits a b more = at_most (literal (pos 0)) b.term ∷ at_most more (literal (pos (width a.kind))) ∷ []

abbrev pub shifted : Number → Number → Plain → Needs → Result (Plain × Needs) No
shifted a b n needs =
    on_ok (plus b.term (literal (pos 1))) (λ more. row (value_of_kind a.kind n) (ranges a b ++ amount_fits a b more) needs)

-- `<<` and `>>`: the amount keeps its own kind
abbrev pub shift : Operator → Number → Number → Needs → Result (Plain × Needs) No
shift operator a b needs = on_ok (folded operator a.term b.term) (λ n. shifted a b n needs)

-- 1 where a comparison of two numbers holds, and else 0; no other operator compares
abbrev pub compared : IntOp → Plain → Plain → Result Plain No
compared c.Eq a b = folded Eqz a b
compared c.Ne a b = on_ok (folded Eqz a b) (λ n. folded Sub (literal (pos 1)) n)
compared c.Lt a b = folded Ltz a b
compared c.Le a b = folded Lez a b
compared c.Gt a b = folded Ltz b a
compared c.Ge a b = folded Lez b a
compared op a b = Err not_number

abbrev pub comparison : IntOp → Number → Number → Needs → Result (Plain × Needs) No
comparison op a b needs = on_ok (compared op a.term b.term) (λ n. row (vint n) (ranges a b) needs)

-- `!a`, which is `a == 0`
abbrev pub is_zero : Number → Needs → Result (Plain × Needs) No
is_zero a needs = comparison c.Eq a (record { kind = a.kind; term = literal (pos 0) }) needs

-- Casts.

abbrev pub narrow : Head → Number → Needs → Result (Plain × Needs) No
narrow head a needs = on_ok (folded_one head a.term) (λ n. row (vint n) [] needs)

abbrev pub wide : IntKind → Number → Needs → Result (Plain × Needs) No
wide k a needs = row (value_of_kind k a.term) (if is_long a.kind then [] else range a.kind a.term) needs

-- a number cast to a kind
abbrev pub number_cast : IntKind → Number → Needs → Result (Plain × Needs) No
number_cast I8 a needs = narrow (Signed Bits8) a needs
number_cast U8 a needs = narrow (Unsigned Bits8) a needs
number_cast I16 a needs = narrow (Signed Bits16) a needs
number_cast U16 a needs = narrow (Unsigned Bits16) a needs
number_cast I32 a needs = row (value_of_kind I32 a.term) [] needs
number_cast U32 a needs = row (value_of_kind U32 a.term) [] needs
number_cast I64 a needs = wide I64 a needs
number_cast U64 a needs = wide U64 a needs

-- a pointer cast to a pointer's type
abbrev pub pointer_cast : CType → Plain → Needs → Result (Plain × Needs) No
pointer_cast to v needs = row (Ok v) (of_type (sized_type to) v ∷ []) needs
