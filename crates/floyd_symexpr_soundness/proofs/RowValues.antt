-- The value of a term that a row makes is one of the machine's.
use Rattle.std.proofs.Common.{◌≡◌, ◌^◌, Bool, true, false, ℤ, pos, ◌+ℤ◌, List, [], ◌∷◌, ◌++◌, Option, Some, None, Result, Ok, Err, refl, ap, subst, ◌∙◌, if◌then◌else◌, arith}
use Rattle.floyd_text.specs.declared.refusal.No.{No}
use Rattle.floyd_int.specs.declared.kinds.IntKind.{IntKind}
use Rattle.floyd_int.specs.declared.kinds.IntKind.TheVariants.{I8, U8, I16, U16, I32, U32, I64, U64}
use Rattle.floyd_int.specs.declared.kinds.IntOp.{IntOp}
use Rattle.floyd_int.specs.declared.kinds.IntOp.TheVariants as c
use Rattle.floyd_int.specs.declared.kinds.Value.{Value}
use Rattle.floyd_int.specs.declared.kinds.Value.TheVariants as v
use Rattle.floyd_int.specs.Kind.{is_signed}
use Rattle.floyd_int.proofs.Modulo.{modulo-below}
use Rattle.floyd_ctypes.specs.declared.ctype.CType.{CType, Void, Int, Pointer', Array', Struct, Function', more_of-CType, end_of-CType}
use Rattle.floyd_ctypes.specs.Structs.{Structs}
use Rattle.floyd_clight.specs.declared.syntax.UnaryOp.{UnaryOp}
use Rattle.floyd_clight.specs.declared.syntax.UnaryOp.TheVariants.{Neg, Complement, Not}
use Rattle.floyd_tree_sorts.specs.declared.heads.Head.{Head}
use Rattle.floyd_tree_sorts.specs.declared.heads.Head.TheVariants.{Signed, Unsigned}
use Rattle.floyd_tree_sorts.specs.declared.heads.Head.TheVariants as h
use Rattle.floyd_tree_sorts.specs.declared.heads.Width.TheVariants.{Bits8, Bits16}
use Rattle.floyd_tree_sorts.specs.declared.operators.Operator.{Operator}
use Rattle.floyd_tree_sorts.specs.declared.operators.Operator.TheVariants.{Add, Sub, Mul, Quot, Rem, Band, Bor, Bxor, Bnot, Shl, Shr, Vint, Vlong, PtrAdd, Nullval}
use Rattle.floyd_tree.specs.Formulas.{PlainFormula}
use Rattle.floyd_tree.specs.Plain.{Plain}
use Rattle.floyd_tree.specs.Types.{SizedType}
use Rattle.floyd_tree_values.specs.BuiltIns.{Env, applied}
use Rattle.floyd_tree_values.specs.Data.{IsValue, Val, number_in, value_in}
use Rattle.floyd_tree_values.specs.Means.{Defs, Means}
use Rattle.floyd_tree_values.specs.Values.{ptr_add, vint, vlong}
use Rattle.floyd_tree_values.proofs.OneValue.{applies, no_data, split}
use Rattle.floyd_assert_trees.specs.declared.sep.Sep.{Sep}
use Rattle.floyd_fieldpath.specs.Addresses.{size_term}
use Rattle.floyd_fieldpath.specs.Nested.{literal, sized_type}
use Rattle.floyd_fieldpath.specs.Projections.{one}
use Rattle.floyd_fieldpath.specs.Sums.{is_zero, moved, plus, two}
use Rattle.floyd_fieldpath.specs.Written.{on_ok, written}
use Rattle.floyd_folding.specs.Folding.{folded, folded_one}
use Rattle.floyd_arith.specs.Same.{same_term}
use Rattle.floyd_symexpr_rows.specs.declared.needs.Needs.{Needs}
use Rattle.floyd_symexpr_rows.specs.declared.needs.Number as n
use Rattle.floyd_symexpr_rows.specs.declared.needs.Operand.{Operand}
use Rattle.floyd_symexpr_rows.specs.declared.needs.Operand.TheVariants.{OfKind, Address}
use Rattle.floyd_symexpr_rows.specs.Formulas.{different, is_pointer, of_type}
use Rattle.floyd_symexpr_rows.specs.Rows.{amount_fits, arithmetic, bitwise, compared, comparison, division, is_long, narrow, no_base, no_overflow, null, number, number_cast, range, ranges, row, shift, shifted, value_of_kind}
use Rattle.floyd_symexpr_rows.specs.Rows as rows
use Rattle.floyd_symexpr_pointers.specs.Operators.{address_of, binary, cast, cast_to_kind, cast_to_pointer, on_address, on_addresses, on_number, on_numbers, on_one_kind, operand, same_kind, unary, way_first, way_second}
use Rattle.floyd_symexpr_pointers.specs.PointerRows.{base, compared_pointer, compared_within, equality, in_object, offset, pointer_equality, pointer_moved, pointer_order, type_in, within}
use Rattle.floyd_symexpr_laws.proofs.NumberRows.{where_same}
use Rattle.floyd_symexpr_laws.proofs.SideTruths.{is_row}
use Rattle.floyd_symexpr_laws.proofs.TermMeanings.{is_written, ok_parts}

moved_value : (x : Value) (z : ℤ) → IsValue (ptr_add x z)
moved_value v.Vundef z = tt
moved_value (v.Vint bits) z = tt
moved_value (v.Vlong bits) z = tt
moved_value (v.Vptr block place) z = modulo-below (pos place +ℤ z) (2 ^ 64) (omega arith)

module _ (defs : Defs) (env : Env) where
  abbrev pub IsWhole : Plain → Type 0
  IsWhole t = (x : Value) → Means defs env t (Val x) → IsValue x

  -- ---- what is written

  int_whole : (m t : Plain) → written (one Vint m) ≡ Ok t → IsWhole t
  int_whole m t e x mean =
      let w = is_written (one Vint m) t e in
      let p = applies refl (subst (λ u. Means defs env u (Val x)) w.same mean) in
      let q = split p.mean in
      let value : Val x ≡ Val (vint (number_in q.datum)) = p.is ∙ ap (λ ds. applied defs.structs env (h.Operator Vint) p.sort ds) q.is in
      let same : vint (number_in q.datum) ≡ x = cc in
      subst IsValue same (modulo-below (number_in q.datum) (2 ^ 32) (omega arith))

  long_whole : (m t : Plain) → written (one Vlong m) ≡ Ok t → IsWhole t
  long_whole m t e x mean =
      let w = is_written (one Vlong m) t e in
      let p = applies refl (subst (λ u. Means defs env u (Val x)) w.same mean) in
      let q = split p.mean in
      let value : Val x ≡ Val (vlong (number_in q.datum)) = p.is ∙ ap (λ ds. applied defs.structs env (h.Operator Vlong) p.sort ds) q.is in
      let same : vlong (number_in q.datum) ≡ x = cc in
      subst IsValue same (modulo-below (number_in q.datum) (2 ^ 64) (omega arith))

  kind_whole : (k : IntKind) (m t : Plain) → value_of_kind k m ≡ Ok t → IsWhole t
  kind_whole k m t e = by (is_long k) e
    where
      by : (b : Bool) → written (one (if b then Vlong else Vint) m) ≡ Ok t → IsWhole t
      by true f = long_whole m t f
      by false f = int_whole m t f

  pub null_whole : IsWhole null
  null_whole x mean =
      let p = applies refl mean in
      let value : Val x ≡ Val (v.Vlong 0) = p.is ∙ ap (λ ds. applied defs.structs env (h.Operator Nullval) p.sort ds) (no_data p.mean) in
      let same : v.Vlong 0 ≡ x = cc in
      subst IsValue same (omega arith)

  moved_whole : (p b r : Plain) → IsWhole p → moved p b ≡ Ok r → IsWhole r
  moved_whole p b r whole e = by (is_zero b) e
    where
      by : (t : Bool) → ◌≡◌ {A = Result Plain No} (if t then Ok p else written (two PtrAdd p b)) (Ok r) → IsWhole r
      by true f = let same : p ≡ r = cc in subst IsWhole same whole
      by false f = λ x mean.
          let w = is_written (two PtrAdd p b) r f in
          let a = applies refl (subst (λ u. Means defs env u (Val x)) w.same mean) in
          let q = split a.mean in
          let s = split q.rest in
          let value : Val x ≡ Val (ptr_add (value_in q.datum) (number_in s.datum)) = a.is ∙ ap (λ ds. applied defs.structs env (h.Operator PtrAdd) a.sort ds) (q.is ∙ ap (λ ds. q.datum ∷ ds) s.is) in
          let same : ptr_add (value_in q.datum) (number_in s.datum) ≡ x = cc in
          subst IsValue same (moved_value (value_in q.datum) (number_in s.datum))

  -- ---- rows

  of_row : (term : Result Plain No) (sides : List PlainFormula) (needs : Needs) (r : Plain) (more : Needs) → ((t : Plain) → term ≡ Ok t → IsWhole t) → row term sides needs ≡ Ok (r, more) → IsWhole r
  of_row term sides needs r more whole e = whole r (is_row term sides needs r more e).made

  of_arithmetic : (operator : Operator) (a b : n.Number) (needs more : Needs) (r : Plain) → arithmetic operator a b needs ≡ Ok (r, more) → IsWhole r
  of_arithmetic operator a b needs more r e =
      let p = ok_parts (folded operator a.term b.term) (λ m. row (value_of_kind a.kind m) (if is_signed a.kind then ranges a b ++ range a.kind m else []) needs) (r, more) e in
      of_row (value_of_kind a.kind p.0) (if is_signed a.kind then ranges a b ++ range a.kind p.0 else []) needs r more (kind_whole a.kind p.0) p.2

  of_division : (operator : Operator) (a b : n.Number) (needs more : Needs) (r : Plain) → division operator a b needs ≡ Ok (r, more) → IsWhole r
  of_division operator a b needs more r e =
      let sides = ranges a b ++ different b.term (literal (pos 0)) ∷ no_overflow a b in
      let p = ok_parts (folded operator a.term b.term) (λ m. row (value_of_kind a.kind m) sides needs) (r, more) e in
      of_row (value_of_kind a.kind p.0) sides needs r more (kind_whole a.kind p.0) p.2

  of_bitwise : (operator : Operator) (a b : n.Number) (needs more : Needs) (r : Plain) → bitwise operator a b needs ≡ Ok (r, more) → IsWhole r
  of_bitwise operator a b needs more r e =
      let p = ok_parts (folded operator a.term b.term) (λ m. row (value_of_kind a.kind m) (ranges a b) needs) (r, more) e in
      of_row (value_of_kind a.kind p.0) (ranges a b) needs r more (kind_whole a.kind p.0) p.2

  of_shift : (operator : Operator) (a b : n.Number) (needs more : Needs) (r : Plain) → shift operator a b needs ≡ Ok (r, more) → IsWhole r
  of_shift operator a b needs more r e =
      let p = ok_parts (folded operator a.term b.term) (λ m. shifted a b m needs) (r, more) e in
      let q = ok_parts (plus b.term (literal (pos 1))) (λ m. row (value_of_kind a.kind p.0) (ranges a b ++ amount_fits a b m) needs) (r, more) p.2 in
      of_row (value_of_kind a.kind p.0) (ranges a b ++ amount_fits a b q.0) needs r more (kind_whole a.kind p.0) q.2

  of_comparison : (op : IntOp) (a b : n.Number) (needs more : Needs) (r : Plain) → comparison op a b needs ≡ Ok (r, more) → IsWhole r
  of_comparison op a b needs more r e =
      let p = ok_parts (compared op a.term b.term) (λ m. row (rows.vint m) (ranges a b) needs) (r, more) e in
      of_row (rows.vint p.0) (ranges a b) needs r more (int_whole p.0) p.2

  of_one_kind : (op : IntOp) (a b : n.Number) (needs more : Needs) (r : Plain) → on_one_kind op a b needs ≡ Ok (r, more) → IsWhole r
  of_one_kind c.Add a b needs more r e = of_arithmetic Add a b needs more r e
  of_one_kind c.Sub a b needs more r e = of_arithmetic Sub a b needs more r e
  of_one_kind c.Mul a b needs more r e = of_arithmetic Mul a b needs more r e
  of_one_kind c.Div a b needs more r e = of_division Quot a b needs more r e
  of_one_kind c.Rem a b needs more r e = of_division Rem a b needs more r e
  of_one_kind c.And a b needs more r e = of_bitwise Band a b needs more r e
  of_one_kind c.Or a b needs more r e = of_bitwise Bor a b needs more r e
  of_one_kind c.Xor a b needs more r e = of_bitwise Bxor a b needs more r e
  of_one_kind op a b needs more r e = of_comparison op a b needs more r e

  of_numbers : (op : IntOp) (a b : n.Number) (needs more : Needs) (r : Plain) → on_numbers op a b needs ≡ Ok (r, more) → IsWhole r
  of_numbers c.Shl a b needs more r e = of_shift Shl a b needs more r e
  of_numbers c.Shr a b needs more r e = of_shift Shr a b needs more r e
  of_numbers op a b needs more r e = of_one_kind op a b needs more r (where_same (same_kind a.kind b.kind) (on_one_kind op a b needs) (r, more) e).1

  of_equality : (negated : Bool) (t u : Plain) (needs more : Needs) (r : Plain) → pointer_equality negated t u needs ≡ Ok (r, more) → IsWhole r
  of_equality negated t u needs more r e =
      let asked : Needs = record needs { valid = needs.valid ++ compared_pointer t ++ compared_pointer u } in
      let p = ok_parts (equality negated t u) (λ m. row (rows.vint m) [] asked) (r, more) e in
      of_row (rows.vint p.0) [] asked r more (int_whole p.0) p.2

  of_object : (structs : Structs) (op : IntOp) (a b : Plain) (needs more : Needs) (r : Plain) (o : Option SizedType) → in_object structs op a b needs o ≡ Ok (r, more) → IsWhole r
  of_object structs op a b needs more r None e = absurd cc
  of_object structs op a b needs more r (Some t) e =
      let p = ok_parts (size_term structs t.shape t.sizes) (λ bytes. compared_within op bytes a b needs) (r, more) e in
      let q = ok_parts (compared op a b) (λ m. row (rows.vint m) (within p.0 a b) needs) (r, more) p.2 in
      of_row (rows.vint q.0) (within p.0 a b) needs r more (int_whole q.0) q.2

  of_order : (structs : Structs) (parts : List Sep) (op : IntOp) (t u : Plain) (needs more : Needs) (r : Plain) → pointer_order structs parts op t u needs ≡ Ok (r, more) → IsWhole r
  of_order structs parts op t u needs more r e = by (same_term (base t) (base u)) e
    where
      by : (s : Bool) → ◌≡◌ {A = Result (Plain × Needs) No} (if s then in_object structs op (offset t) (offset u) needs (type_in parts (base t)) else Err no_base) (Ok (r, more)) → IsWhole r
      by true f = of_object structs op (offset t) (offset u) needs more r (type_in parts (base t)) f
      by false f = absurd cc

  of_addresses : (structs : Structs) (parts : List Sep) (op : IntOp) (t u : Plain) (needs more : Needs) (r : Plain) → on_addresses structs parts op t u needs ≡ Ok (r, more) → IsWhole r
  of_addresses structs parts c.Eq t u needs more r e = of_equality false t u needs more r e
  of_addresses structs parts c.Ne t u needs more r e = of_equality true t u needs more r e
  of_addresses structs parts op t u needs more r e = of_order structs parts op t u needs more r e

  of_moved : (d : Result Plain No) (p : Plain) (i : n.Number) (needs more : Needs) (r : Plain) → IsWhole p → on_ok d (λ by. pointer_moved p by i needs) ≡ Ok (r, more) → IsWhole r
  of_moved d p i needs more r whole e =
      let q = ok_parts d (λ by. pointer_moved p by i needs) (r, more) e in
      of_row (moved p q.0) (is_pointer p ∷ range i.kind i.term) needs r more (λ t. moved_whole p q.0 t whole) q.2

  -- an operand that is an address has such a value
  abbrev pub IsWholeOperand : Operand → Type 0
  IsWholeOperand (OfKind a) = Unit {0}
  IsWholeOperand (Address t p) = IsWhole p

  of_address_operand : (o : Option CType) (t : Plain) (a : Operand) → IsWhole t → address_of o t ≡ Ok a → IsWholeOperand a
  of_address_operand None t a whole e = absurd cc
  of_address_operand (Some u) t a whole e = let same : Address u t ≡ a = cc in subst IsWholeOperand same whole

  pub of_operand : (T : CType) (t : Plain) (a : Operand) → IsWhole t → operand T t ≡ Ok a → IsWholeOperand a
  of_operand (Int k) t a whole e =
      let p = ok_parts (number k t) (λ m. Ok (OfKind m)) a e in
      let same : OfKind p.0 ≡ a = cc in
      subst IsWholeOperand same tt
  of_operand Void t a whole e = absurd cc
  of_operand (Pointer' p (more_of-CType u end_of-CType)) t a whole e = of_address_operand (Some u) t a whole e
  of_operand (Array' p (more_of-CType u end_of-CType) m) t a whole e = of_address_operand (Some u) t a whole e
  of_operand (Struct tag) t a whole e = absurd cc
  of_operand (Function' shape ps p r) t a whole e = of_address_operand (Some (Function' shape ps p r)) t a whole e

  pub of_binary : (structs : Structs) (parts : List Sep) (op : IntOp) (a b : Operand) (needs more : Needs) (r : Plain) → IsWholeOperand a → IsWholeOperand b → binary structs parts op a b needs ≡ Ok (r, more) → IsWhole r
  of_binary structs parts op (OfKind a) (OfKind b) needs more r l m e = of_numbers op a b needs more r e
  of_binary structs parts op (OfKind i) (Address t p) needs more r l m e = of_moved (way_second structs op t i.term) p i needs more r m e
  of_binary structs parts op (Address t p) (OfKind i) needs more r l m e = of_moved (way_first structs op t i.term) p i needs more r l e
  of_binary structs parts op (Address t p) (Address u q) needs more r l m e = of_addresses structs parts op p q needs more r e

  of_number : (op : UnaryOp) (a : n.Number) (needs more : Needs) (r : Plain) → on_number op a needs ≡ Ok (r, more) → IsWhole r
  of_number Neg a needs more r e =
      let p = ok_parts (folded Sub (literal (pos 0)) a.term) (λ m. row (value_of_kind a.kind m) (if is_signed a.kind then range a.kind a.term ++ range a.kind m else []) needs) (r, more) e in
      of_row (value_of_kind a.kind p.0) (if is_signed a.kind then range a.kind a.term ++ range a.kind p.0 else []) needs r more (kind_whole a.kind p.0) p.2
  of_number Complement a needs more r e =
      let p = ok_parts (folded_one (h.Operator Bnot) a.term) (λ m. row (value_of_kind a.kind m) (range a.kind a.term) needs) (r, more) e in
      of_row (value_of_kind a.kind p.0) (range a.kind a.term) needs r more (kind_whole a.kind p.0) p.2
  of_number Not a needs more r e = of_comparison c.Eq a (record { kind = a.kind; term = literal (pos 0) }) needs more r e

  of_address : (op : UnaryOp) (t : Plain) (needs more : Needs) (r : Plain) → on_address op t needs ≡ Ok (r, more) → IsWhole r
  of_address Not t needs more r e = of_equality false t null needs more r e
  of_address Neg t needs more r e = absurd cc
  of_address Complement t needs more r e = absurd cc

  pub of_unary : (op : UnaryOp) (a : Operand) (needs more : Needs) (r : Plain) → unary op a needs ≡ Ok (r, more) → IsWhole r
  of_unary op (OfKind a) needs more r e = of_number op a needs more r e
  of_unary op (Address t p) needs more r e = of_address op p needs more r e

  of_narrow : (head : Head) (a : n.Number) (needs more : Needs) (r : Plain) → narrow head a needs ≡ Ok (r, more) → IsWhole r
  of_narrow head a needs more r e =
      let p = ok_parts (folded_one head a.term) (λ m. row (rows.vint m) [] needs) (r, more) e in
      of_row (rows.vint p.0) [] needs r more (int_whole p.0) p.2

  of_number_cast : (to : IntKind) (a : n.Number) (needs more : Needs) (r : Plain) → number_cast to a needs ≡ Ok (r, more) → IsWhole r
  of_number_cast I8 a needs more r e = of_narrow (Signed Bits8) a needs more r e
  of_number_cast U8 a needs more r e = of_narrow (Unsigned Bits8) a needs more r e
  of_number_cast I16 a needs more r e = of_narrow (Signed Bits16) a needs more r e
  of_number_cast U16 a needs more r e = of_narrow (Unsigned Bits16) a needs more r e
  of_number_cast I32 a needs more r e = of_row (value_of_kind I32 a.term) [] needs r more (kind_whole I32 a.term) e
  of_number_cast U32 a needs more r e = of_row (value_of_kind U32 a.term) [] needs r more (kind_whole U32 a.term) e
  of_number_cast I64 a needs more r e = of_row (value_of_kind I64 a.term) (if is_long a.kind then [] else range a.kind a.term) needs r more (kind_whole I64 a.term) e
  of_number_cast U64 a needs more r e = of_row (value_of_kind U64 a.term) (if is_long a.kind then [] else range a.kind a.term) needs r more (kind_whole U64 a.term) e

  of_to_kind : (to : CType) (a : n.Number) (needs more : Needs) (r : Plain) → cast_to_kind to a needs ≡ Ok (r, more) → IsWhole r
  of_to_kind (Int k) a needs more r e = of_number_cast k a needs more r e
  of_to_kind to a needs more r e = absurd cc

  of_to_pointer : (to : CType) (t : Plain) (needs more : Needs) (r : Plain) → IsWhole t → cast_to_pointer to t needs ≡ Ok (r, more) → IsWhole r
  of_to_pointer (Pointer' p u) t needs more r whole e = of_row (Ok t) (of_type (sized_type (Pointer' p u)) t ∷ []) needs r more (λ w f. let same : t ≡ w = cc in subst IsWhole same whole) e
  of_to_pointer to t needs more r whole e = absurd cc

  pub of_cast : (to : CType) (a : Operand) (needs more : Needs) (r : Plain) → IsWholeOperand a → cast to a needs ≡ Ok (r, more) → IsWhole r
  of_cast to (OfKind a) needs more r whole e = of_to_kind to a needs more r e
  of_cast to (Address t p) needs more r whole e = of_to_pointer to p needs more r whole e
