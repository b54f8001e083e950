-- What a row needs stands behind what was needed before.
use Rattle.std.proofs.Common.{◌≡◌, Bool, true, false, pos, List, [], ◌∷◌, ◌++◌, Option, Some, None, Result, Ok, Err, refl, ap, ◌∙◌, if◌then◌else◌}
use Rattle.floyd_text.specs.declared.refusal.No.{No}
use Rattle.floyd_int.specs.declared.kinds.IntKind.{IntKind}
use Rattle.floyd_int.specs.declared.kinds.IntKind.TheVariants.{I8, U8, I16, U16, I32, U32, I64, U64}
use Rattle.floyd_int.specs.declared.kinds.IntOp.{IntOp}
use Rattle.floyd_int.specs.declared.kinds.IntOp.TheVariants as c
use Rattle.floyd_int.specs.Kind.{is_signed}
use Rattle.floyd_ctypes.specs.declared.ctype.CType.{CType, Int, Pointer'}
use Rattle.floyd_ctypes.specs.Structs.{Structs}
use Rattle.floyd_clight.specs.declared.syntax.UnaryOp.{UnaryOp}
use Rattle.floyd_clight.specs.declared.syntax.UnaryOp.TheVariants.{Neg, Complement, Not}
use Rattle.floyd_tree_sorts.specs.declared.heads.Head.{Head}
use Rattle.floyd_tree_sorts.specs.declared.heads.Head.TheVariants.{Signed, Unsigned}
use Rattle.floyd_tree_sorts.specs.declared.heads.Head.TheVariants as h
use Rattle.floyd_tree_sorts.specs.declared.heads.Width.TheVariants.{Bits8, Bits16}
use Rattle.floyd_tree_sorts.specs.declared.operators.Operator.{Operator}
use Rattle.floyd_tree_sorts.specs.declared.operators.Operator.TheVariants.{Add, Sub, Mul, Quot, Rem, Band, Bor, Bxor, Bnot, Shl, Shr}
use Rattle.floyd_tree.specs.Formulas.{PlainFormula}
use Rattle.floyd_tree.specs.Plain.{Plain}
use Rattle.floyd_tree.specs.Types.{SizedType}
use Rattle.floyd_assert_trees.specs.declared.sep.Sep.{Sep}
use Rattle.floyd_fieldpath.specs.Addresses.{size_term}
use Rattle.floyd_fieldpath.specs.Nested.{literal, sized_type}
use Rattle.floyd_fieldpath.specs.Sums.{moved, plus}
use Rattle.floyd_folding.specs.Folding.{folded, folded_one}
use Rattle.floyd_arith.specs.Same.{same_term}
use Rattle.floyd_fieldpath.specs.Written.{on_ok}
use Rattle.floyd_symexpr_rows.specs.declared.needs.Needs.{Needs}
use Rattle.floyd_symexpr_rows.specs.declared.needs.Number as n
use Rattle.floyd_symexpr_rows.specs.declared.needs.Operand.{Operand}
use Rattle.floyd_symexpr_rows.specs.declared.needs.Operand.TheVariants.{OfKind, Address}
use Rattle.floyd_symexpr_rows.specs.Formulas.{different, is_pointer, of_type}
use Rattle.floyd_symexpr_rows.specs.Rows.{amount_fits, arithmetic, bitwise, compared, comparison, division, is_long, narrow, no_base, no_overflow, null, number_cast, range, ranges, row, shift, shifted, value_of_kind, vint}
use Rattle.floyd_symexpr_pointers.specs.Operators.{binary, cast, cast_to_kind, cast_to_pointer, on_address, on_addresses, on_number, on_numbers, on_one_kind, same_kind, unary, way_first, way_second}
use Rattle.floyd_symexpr_pointers.specs.PointerRows.{base, compared_pointer, compared_within, equality, in_object, offset, pointer_equality, pointer_moved, pointer_order, type_in, within}
use Rattle.floyd_symexpr_laws.proofs.NumberRows.{where_same}
use Rattle.floyd_symexpr_laws.proofs.SideTruths.{is_row}
use Rattle.floyd_symexpr_laws.proofs.TermMeanings.{ok_parts}
use Rattle.floyd_symexpr_pointer_laws.specs.Laws.{Begins}

nothing_behind : {A : Type 0} (all : List A) → all ≡ all ++ []
nothing_behind [] = refl
nothing_behind (x ∷ all) = ap (λ rest. x ∷ rest) (nothing_behind all)

of_row : (term : Result Plain No) (sides : List PlainFormula) (needs : Needs) (r : Plain) (more : Needs) → row term sides needs ≡ Ok (r, more) → Begins needs more
of_row term sides needs r more e =
    let w = is_row term sides needs r more e in
    record { sides = sides; valid = []; all_sides = w.all_sides; all_valid = w.all_valid ∙ nothing_behind needs.valid }

of_arithmetic : (operator : Operator) (a b : n.Number) (needs more : Needs) (r : Plain) → arithmetic operator a b needs ≡ Ok (r, more) → Begins needs more
of_arithmetic operator a b needs more r e =
    let p = ok_parts (folded operator a.term b.term) (λ m. row (value_of_kind a.kind m) (if is_signed a.kind then ranges a b ++ range a.kind m else []) needs) (r, more) e in
    of_row (value_of_kind a.kind p.0) (if is_signed a.kind then ranges a b ++ range a.kind p.0 else []) needs r more p.2

of_division : (operator : Operator) (a b : n.Number) (needs more : Needs) (r : Plain) → division operator a b needs ≡ Ok (r, more) → Begins needs more
of_division operator a b needs more r e =
    let sides = ranges a b ++ different b.term (literal (pos 0)) ∷ no_overflow a b in
    let p = ok_parts (folded operator a.term b.term) (λ m. row (value_of_kind a.kind m) sides needs) (r, more) e in
    of_row (value_of_kind a.kind p.0) sides needs r more p.2

of_bitwise : (operator : Operator) (a b : n.Number) (needs more : Needs) (r : Plain) → bitwise operator a b needs ≡ Ok (r, more) → Begins needs more
of_bitwise operator a b needs more r e =
    let p = ok_parts (folded operator a.term b.term) (λ m. row (value_of_kind a.kind m) (ranges a b) needs) (r, more) e in
    of_row (value_of_kind a.kind p.0) (ranges a b) needs r more p.2

of_shift : (operator : Operator) (a b : n.Number) (needs more : Needs) (r : Plain) → shift operator a b needs ≡ Ok (r, more) → Begins needs more
of_shift operator a b needs more r e =
    let p = ok_parts (folded operator a.term b.term) (λ m. shifted a b m needs) (r, more) e in
    let q = ok_parts (plus b.term (literal (pos 1))) (λ m. row (value_of_kind a.kind p.0) (ranges a b ++ amount_fits a b m) needs) (r, more) p.2 in
    of_row (value_of_kind a.kind p.0) (ranges a b ++ amount_fits a b q.0) needs r more q.2

of_comparison : (op : IntOp) (a b : n.Number) (needs more : Needs) (r : Plain) → comparison op a b needs ≡ Ok (r, more) → Begins needs more
of_comparison op a b needs more r e =
    let p = ok_parts (compared op a.term b.term) (λ m. row (vint m) (ranges a b) needs) (r, more) e in
    of_row (vint p.0) (ranges a b) needs r more p.2

of_one_kind : (op : IntOp) (a b : n.Number) (needs more : Needs) (r : Plain) → on_one_kind op a b needs ≡ Ok (r, more) → Begins needs more
of_one_kind c.Add a b needs more r e = of_arithmetic Add a b needs more r e
of_one_kind c.Sub a b needs more r e = of_arithmetic Sub a b needs more r e
of_one_kind c.Mul a b needs more r e = of_arithmetic Mul a b needs more r e
of_one_kind c.Div a b needs more r e = of_division Quot a b needs more r e
of_one_kind c.Rem a b needs more r e = of_division Rem a b needs more r e
of_one_kind c.And a b needs more r e = of_bitwise Band a b needs more r e
of_one_kind c.Or a b needs more r e = of_bitwise Bor a b needs more r e
of_one_kind c.Xor a b needs more r e = of_bitwise Bxor a b needs more r e
of_one_kind op a b needs more r e = of_comparison op a b needs more r e

of_numbers : (op : IntOp) (a b : n.Number) (needs more : Needs) (r : Plain) → on_numbers op a b needs ≡ Ok (r, more) → Begins needs more
of_numbers c.Shl a b needs more r e = of_shift Shl a b needs more r e
of_numbers c.Shr a b needs more r e = of_shift Shr a b needs more r e
of_numbers op a b needs more r e = of_one_kind op a b needs more r (where_same (same_kind a.kind b.kind) (on_one_kind op a b needs) (r, more) e).1

of_equality : (negated : Bool) (t u : Plain) (needs more : Needs) (r : Plain) → pointer_equality negated t u needs ≡ Ok (r, more) → Begins needs more
of_equality negated t u needs more r e =
    let asked : Needs = record needs { valid = needs.valid ++ compared_pointer t ++ compared_pointer u } in
    let p = ok_parts (equality negated t u) (λ m. row (vint m) [] asked) (r, more) e in
    let w = is_row (vint p.0) [] asked r more p.2 in
    record {
      sides = [];
      valid = compared_pointer t ++ compared_pointer u;
      all_sides = w.all_sides;
      all_valid = w.all_valid ∙ regrouped needs.valid (compared_pointer t) (compared_pointer u);
    }
  where
    regrouped : (xs ys zs : List Plain) → (xs ++ ys) ++ zs ≡ xs ++ (ys ++ zs)
    regrouped [] ys zs = refl
    regrouped (x ∷ xs) ys zs = ap (λ rest. x ∷ rest) (regrouped xs ys zs)

of_object : (structs : Structs) (op : IntOp) (a b : Plain) (needs more : Needs) (r : Plain) (o : Option SizedType) → in_object structs op a b needs o ≡ Ok (r, more) → Begins needs more
of_object structs op a b needs more r None e = absurd cc
of_object structs op a b needs more r (Some t) e =
    let p = ok_parts (size_term structs t.shape t.sizes) (λ bytes. compared_within op bytes a b needs) (r, more) e in
    let q = ok_parts (compared op a b) (λ m. row (vint m) (within p.0 a b) needs) (r, more) p.2 in
    of_row (vint q.0) (within p.0 a b) needs r more q.2

of_order : (structs : Structs) (parts : List Sep) (op : IntOp) (t u : Plain) (needs more : Needs) (r : Plain) → pointer_order structs parts op t u needs ≡ Ok (r, more) → Begins needs more
of_order structs parts op t u needs more r e = by (same_term (base t) (base u)) e
  where
    by : (s : Bool) → ◌≡◌ {A = Result (Plain × Needs) No} (if s then in_object structs op (offset t) (offset u) needs (type_in parts (base t)) else Err no_base) (Ok (r, more)) → Begins needs more
    by true f = of_object structs op (offset t) (offset u) needs more r (type_in parts (base t)) f
    by false f = absurd cc

of_addresses : (structs : Structs) (parts : List Sep) (op : IntOp) (t u : Plain) (needs more : Needs) (r : Plain) → on_addresses structs parts op t u needs ≡ Ok (r, more) → Begins needs more
of_addresses structs parts c.Eq t u needs more r e = of_equality false t u needs more r e
of_addresses structs parts c.Ne t u needs more r e = of_equality true t u needs more r e
of_addresses structs parts op t u needs more r e = of_order structs parts op t u needs more r e

of_moved : (d : Result Plain No) (p : Plain) (i : n.Number) (needs more : Needs) (r : Plain) → on_ok d (λ by. pointer_moved p by i needs) ≡ Ok (r, more) → Begins needs more
of_moved d p i needs more r e =
    let q = ok_parts d (λ by. pointer_moved p by i needs) (r, more) e in
    of_row (moved p q.0) (is_pointer p ∷ range i.kind i.term) needs r more q.2

pub of_binary : (structs : Structs) (parts : List Sep) (op : IntOp) (a b : Operand) (needs more : Needs) (r : Plain) → binary structs parts op a b needs ≡ Ok (r, more) → Begins needs more
of_binary structs parts op (OfKind a) (OfKind b) needs more r e = of_numbers op a b needs more r e
of_binary structs parts op (OfKind i) (Address t p) needs more r e = of_moved (way_second structs op t i.term) p i needs more r e
of_binary structs parts op (Address t p) (OfKind i) needs more r e = of_moved (way_first structs op t i.term) p i needs more r e
of_binary structs parts op (Address t p) (Address u q) needs more r e = of_addresses structs parts op p q needs more r e

of_number : (op : UnaryOp) (a : n.Number) (needs more : Needs) (r : Plain) → on_number op a needs ≡ Ok (r, more) → Begins needs more
of_number Neg a needs more r e =
    let p = ok_parts (folded Sub (literal (pos 0)) a.term) (λ m. row (value_of_kind a.kind m) (if is_signed a.kind then range a.kind a.term ++ range a.kind m else []) needs) (r, more) e in
    of_row (value_of_kind a.kind p.0) (if is_signed a.kind then range a.kind a.term ++ range a.kind p.0 else []) needs r more p.2
of_number Complement a needs more r e =
    let p = ok_parts (folded_one (h.Operator Bnot) a.term) (λ m. row (value_of_kind a.kind m) (range a.kind a.term) needs) (r, more) e in
    of_row (value_of_kind a.kind p.0) (range a.kind a.term) needs r more p.2
of_number Not a needs more r e = of_comparison c.Eq a (record { kind = a.kind; term = literal (pos 0) }) needs more r e

of_address : (op : UnaryOp) (t : Plain) (needs more : Needs) (r : Plain) → on_address op t needs ≡ Ok (r, more) → Begins needs more
of_address Not t needs more r e = of_equality false t null needs more r e
of_address Neg t needs more r e = absurd cc
of_address Complement t needs more r e = absurd cc

pub of_unary : (op : UnaryOp) (a : Operand) (needs more : Needs) (r : Plain) → unary op a needs ≡ Ok (r, more) → Begins needs more
of_unary op (OfKind a) needs more r e = of_number op a needs more r e
of_unary op (Address t p) needs more r e = of_address op p needs more r e

of_narrow : (head : Head) (a : n.Number) (needs more : Needs) (r : Plain) → narrow head a needs ≡ Ok (r, more) → Begins needs more
of_narrow head a needs more r e =
    let p = ok_parts (folded_one head a.term) (λ m. row (vint m) [] needs) (r, more) e in
    of_row (vint p.0) [] needs r more p.2

of_cast_number : (to : IntKind) (a : n.Number) (needs more : Needs) (r : Plain) → number_cast to a needs ≡ Ok (r, more) → Begins needs more
of_cast_number I8 a needs more r e = of_narrow (Signed Bits8) a needs more r e
of_cast_number U8 a needs more r e = of_narrow (Unsigned Bits8) a needs more r e
of_cast_number I16 a needs more r e = of_narrow (Signed Bits16) a needs more r e
of_cast_number U16 a needs more r e = of_narrow (Unsigned Bits16) a needs more r e
of_cast_number I32 a needs more r e = of_row (value_of_kind I32 a.term) [] needs r more e
of_cast_number U32 a needs more r e = of_row (value_of_kind U32 a.term) [] needs r more e
of_cast_number I64 a needs more r e = of_row (value_of_kind I64 a.term) (if is_long a.kind then [] else range a.kind a.term) needs r more e
of_cast_number U64 a needs more r e = of_row (value_of_kind U64 a.term) (if is_long a.kind then [] else range a.kind a.term) needs r more e

of_to_kind : (to : CType) (a : n.Number) (needs more : Needs) (r : Plain) → cast_to_kind to a needs ≡ Ok (r, more) → Begins needs more
of_to_kind (Int k) a needs more r e = of_cast_number k a needs more r e
of_to_kind to a needs more r e = absurd cc

of_to_pointer : (to : CType) (t : Plain) (needs more : Needs) (r : Plain) → cast_to_pointer to t needs ≡ Ok (r, more) → Begins needs more
of_to_pointer (Pointer' p u) t needs more r e = of_row (Ok t) (of_type (sized_type (Pointer' p u)) t ∷ []) needs r more e
of_to_pointer to t needs more r e = absurd cc

pub of_cast : (to : CType) (a : Operand) (needs more : Needs) (r : Plain) → cast to a needs ≡ Ok (r, more) → Begins needs more
of_cast to (OfKind a) needs more r e = of_to_kind to a needs more r e
of_cast to (Address t p) needs more r e = of_to_pointer to p needs more r e
