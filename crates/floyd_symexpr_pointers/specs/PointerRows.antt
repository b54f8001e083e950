-- Operators on pointers, row by row.
use Rattle.std.specs.Prelude.{Bool, true, false, ◌&&◌, List, [], ◌∷◌, ◌++◌, length, ◌==◌, pos, unwrap_or, Option, Some, None, Result, Ok, Err, if◌then◌else◌}
use Rattle.std.specs.Option.{option_or}
use Rattle.floyd_text.specs.declared.refusal.No.{No}
use Rattle.floyd_int.specs.declared.kinds.IntOp.{IntOp}
use Rattle.floyd_ctypes.specs.declared.ctype.CType.{CType}
use Rattle.floyd_ctypes.specs.Structs.{Structs}
use Rattle.floyd_tree_sorts.specs.declared.heads.Head.{Head}
use Rattle.floyd_tree_sorts.specs.declared.heads.Head.TheVariants as h
use Rattle.floyd_tree_sorts.specs.declared.operators.Operator.TheVariants.{Nullval, PtrAdd, Eqv, Sub}
use Rattle.floyd_tree.specs.Formulas.{PlainFormula}
use Rattle.floyd_tree.specs.Plain.{Plain, head_of}
use Rattle.floyd_tree.specs.Types.{SizedType}
use Rattle.floyd_assert_trees.specs.declared.sep.Sep.{Sep}
use Rattle.floyd_assert_trees.specs.declared.sep.Sep.TheVariants.{FieldAt}
use Rattle.floyd_fieldpath.specs.Addresses.{size_term, element_offset}
use Rattle.floyd_fieldpath.specs.Nested.{literal, sized_type}
use Rattle.floyd_fieldpath.specs.Projections.{kid_under}
use Rattle.floyd_fieldpath.specs.Sums.{moved, two}
use Rattle.floyd_fieldpath.specs.Written.{written, on_ok}
use Rattle.floyd_folding.specs.Folding.{folded}
use Rattle.floyd_symexpr_rows.specs.declared.needs.Needs.{Needs}
use Rattle.floyd_symexpr_rows.specs.declared.needs.Number.{Number}
use Rattle.floyd_symexpr_rows.specs.Formulas.{at_most, is_pointer}
use Rattle.floyd_arith.specs.Same.{same_term}
use Rattle.floyd_symexpr_rows.specs.Rows.{no_base, row, range, vint, compared}

abbrev pub is_null : Head → Bool
is_null (h.Operator Nullval) = true
is_null head = false

-- what is compared with a pointer must be valid, but null
abbrev pub compared_pointer : Plain → List Plain
compared_pointer v = if is_null (head_of v) then [] else v ∷ []

abbrev pub negated_if : Bool → Plain → Result Plain No
negated_if test n = if test then folded Sub (literal (pos 1)) n else Ok n

-- 1 where two values are equal, and else 0, or negated
abbrev pub equality : Bool → Plain → Plain → Result Plain No
equality negated v w = on_ok (written (two Eqv v w)) (negated_if negated)

-- `==`, and negated `!=`
abbrev pub pointer_equality : Bool → Plain → Plain → Needs → Result (Plain × Needs) No
pointer_equality negated v w needs =
    on_ok (equality negated v w) (λ n. row (vint n) [] (record needs { valid = needs.valid ++ compared_pointer v ++ compared_pointer w }))

abbrev pub is_ptr_add : Head → Bool
is_ptr_add (h.Operator PtrAdd) = true
is_ptr_add head = false

-- a pointer is one moved by an offset, or else itself with the offset 0
abbrev pub base : Plain → Plain
base v = unwrap_or (kid_under is_ptr_add 0 v) v

abbrev pub offset : Plain → Plain
offset v = unwrap_or (kid_under is_ptr_add 1 v) (literal (pos 0))

-- the type of a part that is a whole object at the root
abbrev pub object_type : Plain → Sep → Option SizedType
object_type root (FieldAt region value) = if length region.path == 0 && same_term root region.root then Some region.ty else None
object_type root part = None

-- the type of the first part that is a whole object at the root
abbrev pub type_in : List Sep → Plain → Option SizedType
type_in [] root = None
type_in (part ∷ parts) root = option_or (object_type root part) (type_in parts root)

-- both offsets lie in an object of so many bytes, or at its end
abbrev pub within : Plain → Plain → Plain → List PlainFormula
within bytes a b =
    at_most (literal (pos 1)) bytes ∷ at_most (literal (pos 0)) a ∷ at_most a bytes ∷ at_most (literal (pos 0)) b ∷ at_most b bytes ∷ []

abbrev pub compared_within : IntOp → Plain → Plain → Plain → Needs → Result (Plain × Needs) No
compared_within op bytes a b needs = on_ok (compared op a b) (λ n. row (vint n) (within bytes a b) needs)

abbrev pub in_object : Structs → IntOp → Plain → Plain → Needs → Option SizedType → Result (Plain × Needs) No
in_object structs op a b needs None = Err no_base
in_object structs op a b needs (Some t) =
    on_ok (size_term structs t.shape t.sizes) (λ bytes. compared_within op bytes a b needs)

-- `<`, `<=`, `>` and `>=`: both are one root moved, and the offsets are compared
abbrev pub pointer_order : Structs → List Sep → IntOp → Plain → Plain → Needs → Result (Plain × Needs) No
pointer_order structs parts op v w needs =
    if same_term (base v) (base w) then in_object structs op (offset v) (offset w) needs (type_in parts (base v)) else Err no_base

-- up, or down
abbrev pub directed : Bool → Plain → Result Plain No
directed down bytes = if down then folded Sub (literal (pos 0)) bytes else Ok bytes

-- so many elements of a type up or down, in bytes
abbrev pub way : Structs → Bool → CType → Plain → Result Plain No
way structs down element i = on_ok (element_offset structs (sized_type element) i) (directed down)

-- `p + i` and `p - i`, on a pointer and the number of bytes by which it is moved
abbrev pub pointer_moved : Plain → Plain → Number → Needs → Result (Plain × Needs) No
pointer_moved p by i needs = row (moved p by) (is_pointer p ∷ range i.kind i.term) needs
