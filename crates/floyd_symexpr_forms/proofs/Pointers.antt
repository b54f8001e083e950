-- What the rows of operators on pointers give is well formed, and so is what each operator and cast gives.
use Rattle.std.proofs.Common.{◌≡◌, ◌+◌, arith, nat_eq, ap₂, eq-eqb, ℤ, pos, Bool, true, false, ◌&&◌, List, [], ◌∷◌, ◌++◌, map, length, Option, Some, None, Ok, Err, refl, sym, ap, subst, ◌∙◌, if◌then◌else◌}
use Rattle.std.specs.Prelude.{◌==◌}
use Rattle.std.specs.List.{AllByRecursion}
use Rattle.std.specs.Option.{option_or}
use Rattle.floyd_int.specs.declared.kinds.IntOp.{IntOp}
use Rattle.floyd_int.specs.declared.kinds.IntOp.TheVariants as c
use Rattle.floyd_ctypes.specs.declared.ctype.CType.{CType, Int, Pointer', more_of-CType, end_of-CType}
use Rattle.floyd_clight.specs.declared.syntax.UnaryOp.{UnaryOp}
use Rattle.floyd_clight.specs.declared.syntax.UnaryOp.TheVariants.{Neg, Complement, Not}
use Rattle.floyd_clight_machine.specs.Types.{pointee}
use Rattle.floyd_tree_sorts.specs.declared.connectives.FormulaHead.TheVariants.{Hasty}
use Rattle.floyd_tree_sorts.specs.declared.heads.Head.TheVariants as h
use Rattle.floyd_tree_sorts.specs.declared.operators.Operator.TheVariants.{Add, Sub, Mul, Quot, Rem, Band, Bor, Bxor, Shl, Shr, Eqv, PtrAdd}
use Rattle.floyd_tree_sorts.specs.declared.shape.Shape.{Shape, more_of-Shape, end_of-Shape}
use Rattle.floyd_tree_sorts.specs.declared.shape.Shape as s
use Rattle.floyd_tree_sorts.specs.declared.sorts.Sort.{Sort, Val, Z}
use Rattle.floyd_tree_sorts.specs.Operators as operators
use Rattle.floyd_tree_sorts.proofs.RowLemmas.{row_taken}
use Rattle.floyd_tree.specs.Formulas.{takes_all}
use Rattle.floyd_tree.specs.Plain.{Plain, Plains, At, head_of, plains}
use Rattle.floyd_tree.specs.Types.{SizedType}
use Rattle.floyd_tree.specs.WellSorted.{sort_of, sorts_of, with_first}
use Rattle.floyd_tree_sorts.specs.Rows.{is_scalar, numbers_then_val}
use Rattle.floyd_tree_sorts.specs.Table.{arrays}
use Rattle.floyd_fieldpath_laws.proofs.TypeSorts.{field_sizes}
use Rattle.floyd_tree_values.specs.Means.{Defs}
use Rattle.floyd_tree_values.specs.Rules.{AllAllowed, CallsOf, Scope}
use Rattle.floyd_goal_formulas.specs.Fits.{Fits}
use Rattle.floyd_assert_trees.specs.declared.sep.Sep.{Sep}
use Rattle.floyd_assert_trees.specs.declared.sep.Sep.TheVariants.{FieldAt, Padding, Valid, Anything, Predicate}
use Rattle.floyd_assert_cells.specs.Types.{sizes_of}
use Rattle.floyd_arith.specs.Same.{same_term}
use Rattle.floyd_fieldpath.specs.Addresses.{element_offset, size_term}
use Rattle.floyd_fieldpath.specs.Nested.{literal, sized_type}
use Rattle.floyd_fieldpath.specs.Sums.{moved, times, two}
use Rattle.floyd_fieldpath.specs.Sums as sums
use Rattle.floyd_fieldpath.specs.Written.{written}
use Rattle.floyd_fieldpath_laws.proofs.TermSorts.{TwoKids, taken, two_kids}
use Rattle.floyd_folding.specs.Folding.{folded}
use Rattle.floyd_symexpr_rows.specs.declared.needs.Needs.{Needs}
use Rattle.floyd_symexpr_rows.specs.declared.needs.Number.{Number}
use Rattle.floyd_symexpr_rows.specs.declared.needs.Operand.{Operand}
use Rattle.floyd_symexpr_rows.specs.declared.needs.Operand.TheVariants.{OfKind, Address}
use Rattle.floyd_symexpr_rows.specs.Formulas.{is_pointer, of_type}
use Rattle.floyd_symexpr_rows.specs.Rows.{compared, no_base, not_number, null, number, range, row, vint}
use Rattle.floyd_symexpr_pointers.specs.Operators.{address_of, binary, cast, cast_to_kind, cast_to_pointer, on_addresses, on_numbers, on_one_kind, operand, same_kind, unary, way_first, way_second}
use Rattle.floyd_symexpr_pointers.specs.PointerRows.{base, compared_pointer, compared_within, directed, equality, in_object, is_null, negated_if, object_type, offset, pointer_equality, pointer_moved, pointer_order, type_in, way, within}
use Rattle.floyd_symexpr_forms.specs.Laws.{NeedsFit, PartIsSized}
use Rattle.floyd_symexpr_forms.proofs.Answers.{Gives, Good, GoodRow, Stated, at_most_fits, both, chosen, folded_good, is_pointer_fits, literal_good, on, row_good, times_good, two_good, written_good}
use Rattle.floyd_symexpr_forms.proofs.Rows.{GoodNumber, arithmetic_good, bitwise_good, compared_good, comparison_good, complement_good, division_good, is_zero_good, negation_good, number_cast_good, number_good, range_fits, shift_good, vint_good}

module _ (defs : Defs) (scope : Scope) where
  abbrev G : Plain → Type 0
  G t = Good defs scope Z t

  abbrev V : Plain → Type 0
  V t = Good defs scope Val t

  abbrev R : Plain × Needs → Type 0
  R v = GoodRow defs scope v

  abbrev W : Needs → Type 0
  W needs = NeedsFit defs scope needs

  -- ---- equality

  pointers_good : (v : Plain) → V v → AllByRecursion V (compared_pointer v)
  pointers_good v g = by (is_null (head_of v))
    where
      by : (b : Bool) → AllByRecursion V (if b then [] else v ∷ [])
      by true = tt
      by false = (g, tt)

  equality_good : (negated : Bool) (v w : Plain) → V v → V w → Gives G (equality negated v w)
  equality_good negated v w g h =
      on G G (written (two Eqv v w)) (negated_if negated) (written_good defs scope Z (two Eqv v w) (two_good defs scope Eqv Val Val Z v w g h refl))
      (λ n x. chosen G negated (folded Sub (literal (pos 1)) n) (Ok n) (folded_good defs scope Sub (literal (pos 1)) n refl (literal_good defs scope (pos 1)) x) x)

  pub pointer_equality_good : (negated : Bool) (v w : Plain) (needs : Needs) → V v → V w → W needs → Gives R (pointer_equality negated v w needs)
  pointer_equality_good negated v w needs g h k =
      let more : Needs = record needs { valid = needs.valid ++ compared_pointer v ++ compared_pointer w } in
      on G R (equality negated v w) (λ n. row (vint n) [] more) (equality_good negated v w g h)
      (λ n x. row_good defs scope (vint n) [] more (vint_good defs scope n x) tt
      (record { sides = k.sides; valid = both V (needs.valid ++ compared_pointer v) (compared_pointer w) (both V needs.valid (compared_pointer v) k.valid (pointers_good v g)) (pointers_good w h) }))

  -- ---- sizes

  pub literals_good : (zs : List ℤ) → AllByRecursion G (map literal zs)
  literals_good [] = tt
  literals_good (z ∷ zs) = (literal_good defs scope z, literals_good zs)

  pub size_good : (shape : Shape) (sizes : List Plain) → AllByRecursion G sizes → Gives G (size_term defs.structs shape sizes)
  size_good (s.Array' p (more_of-Shape element end_of-Shape)) (n ∷ sizes) h = on G G (size_term defs.structs element sizes) (λ bytes. times bytes n) (size_good element sizes h.1) (λ bytes x. times_good defs scope bytes n x h.0)
  size_good (s.Array' p (more_of-Shape element end_of-Shape)) [] h = literal_good defs scope _
  size_good s.Void sizes h = literal_good defs scope _
  size_good (s.Int kind) sizes h = literal_good defs scope _
  size_good (s.Pointer' p to) sizes h = literal_good defs scope _
  size_good (s.Struct tag) sizes h = literal_good defs scope _
  size_good (s.Function' q ps p r) sizes h = literal_good defs scope _

  pub element_good : (t : SizedType) (i : Plain) → AllByRecursion G t.sizes → G i → Gives G (element_offset defs.structs t i)
  element_good t i h g = on G G (size_term defs.structs t.shape t.sizes) (λ bytes. times bytes i) (size_good t.shape t.sizes h) (λ bytes x. times_good defs scope bytes i x g)

  -- ---- moved pointers

  pub moved_good : (p n : Plain) → V p → G n → Gives V (moved p n)
  moved_good p n g h = chosen V (sums.is_zero n) (Ok p) (written (two PtrAdd p n)) g (written_good defs scope Val (two PtrAdd p n) (two_good defs scope PtrAdd Val Z Val p n g h refl))

  moved_kids : (kids : Plains) (r : Sort) → sort_of (At (h.Operator PtrAdd) kids) ≡ Some r → TwoKids kids Val Z
  moved_kids kids r e =
      let t = taken PtrAdd kids r e in
      two_kids kids Val Z (t.1 ∙ ap Some (sym (row_taken (operators.row PtrAdd) t.0 r t.2).2))

  parts_good : (v : Plain) → V v → V (base v) × G (offset v)
  parts_good (At (h.Operator PtrAdd) kids) g =
      let k = moved_kids kids Val g.sorted in
      let a = subst (AllAllowed defs.structs scope (CallsOf defs.funs)) k.is g.allowed.1 in
      subst (λ ks. V (base (At (h.Operator PtrAdd) ks)) × G (offset (At (h.Operator PtrAdd) ks))) (sym k.is) (record { sorted = k.first_sort; allowed = a.0 }, record { sorted = k.second_sort; allowed = a.1.0 })
  parts_good (At head kids) g = (g, literal_good defs scope (pos 0))

  way_good : (down : Bool) (element : CType) (i : Plain) → G i → Gives G (way defs.structs down element i)
  way_good down element i g =
      on G G (element_offset defs.structs (sized_type element) i) (directed down) (element_good (sized_type element) i (literals_good (sizes_of element)) g)
      (λ bytes x. chosen G down (folded Sub (literal (pos 0)) bytes) (Ok bytes) (folded_good defs scope Sub (literal (pos 0)) bytes refl (literal_good defs scope (pos 0)) x) x)

  pointer_moved_good : (p by : Plain) (i : Number) (needs : Needs) → V p → G by → GoodNumber defs scope i → W needs → Gives R (pointer_moved p by i needs)
  pointer_moved_good p by i needs g h k w = row_good defs scope (moved p by) (is_pointer p ∷ range i.kind i.term) needs (moved_good p by g h) (is_pointer_fits defs scope p g, range_fits defs scope i.kind i.term k) w

  -- ---- order

  abbrev pub IsSized : Option SizedType → Type 0
  IsSized None = Unit {0}
  IsSized (Some t) = AllByRecursion G t.sizes

  either_sized : (o p : Option SizedType) → IsSized o → IsSized p → IsSized (option_or o p)
  either_sized None p h k = k
  either_sized (Some t) p h k = h

  object_sized : (root : Plain) (part : Sep) → PartIsSized defs scope part → IsSized (object_type root part)
  object_sized root (FieldAt region value) h = by (length region.path == 0 && same_term root region.root)
    where
      by : (b : Bool) → IsSized (if b then Some region.ty else None)
      by true = h
      by false = tt
  object_sized root (Padding region) h = tt
  object_sized root (Valid v) h = tt
  object_sized root Anything h = tt
  object_sized root (Predicate name terms) h = tt

  type_sized : (parts : List Sep) (root : Plain) → AllByRecursion (PartIsSized defs scope) parts → IsSized (type_in parts root)
  type_sized [] root h = tt
  type_sized (part ∷ parts) root h = either_sized (object_type root part) (type_in parts root) (object_sized root part h.0) (type_sized parts root h.1)

  within_fits : (bytes a b : Plain) → G bytes → G a → G b → Stated defs scope (within bytes a b)
  within_fits bytes a b g h k =
      let zero = literal_good defs scope (pos 0) in (
        at_most_fits defs scope (literal (pos 1)) bytes (literal_good defs scope (pos 1)) g,
        (
          at_most_fits defs scope (literal (pos 0)) a zero h,
          (
            at_most_fits defs scope a bytes h g,
            (at_most_fits defs scope (literal (pos 0)) b zero k, (at_most_fits defs scope b bytes k g, tt)),
          ),
        ),
      )

  in_object_good : (op : IntOp) (a b : Plain) (needs : Needs) (o : Option SizedType) → G a → G b → W needs → IsSized o → Gives R (in_object defs.structs op a b needs o)
  in_object_good op a b needs None g h w z = tt
  in_object_good op a b needs (Some t) g h w z =
      on G R (size_term defs.structs t.shape t.sizes) (λ bytes. compared_within op bytes a b needs) (size_good t.shape t.sizes z)
      (λ bytes x. on G R (compared op a b) (λ n. row (vint n) (within bytes a b) needs) (compared_good defs scope op a b g h) (λ n y. row_good defs scope (vint n) (within bytes a b) needs (vint_good defs scope n y) (within_fits bytes a b x g h) w))

  order_good : (parts : List Sep) (op : IntOp) (v w : Plain) (needs : Needs) → AllByRecursion (PartIsSized defs scope) parts → V v → V w → W needs → Gives R (pointer_order defs.structs parts op v w needs)
  order_good parts op v w needs z g h k =
      chosen R (same_term (base v) (base w)) (in_object defs.structs op (offset v) (offset w) needs (type_in parts (base v))) (Err no_base)
      (in_object_good op (offset v) (offset w) needs (type_in parts (base v)) (parts_good v g).1 (parts_good w h).1 k (type_sized parts (base v) z)) tt

  -- ---- operators

  abbrev pub GoodOperand : Operand → Type 0
  GoodOperand (OfKind a) = GoodNumber defs scope a
  GoodOperand (Address t v) = V v

  address_good : (o : Option CType) (v : Plain) → V v → Gives GoodOperand (address_of o v)
  address_good None v g = tt
  address_good (Some t) v g = g

  pub operand_good : (t : CType) (v : Plain) → V v → Gives GoodOperand (operand t v)
  operand_good (Int k) v g = on (GoodNumber defs scope) GoodOperand (number k v) (λ n. Ok (OfKind n)) (number_good defs scope k v g) (λ n x. x)
  operand_good t v g = address_good (pointee t) v g

  one_kind_good : (op : IntOp) (a b : Number) (needs : Needs) → GoodNumber defs scope a → GoodNumber defs scope b → W needs → Gives R (on_one_kind op a b needs)
  one_kind_good c.Add a b needs g h w = arithmetic_good defs scope Add a b needs refl g h w
  one_kind_good c.Sub a b needs g h w = arithmetic_good defs scope Sub a b needs refl g h w
  one_kind_good c.Mul a b needs g h w = arithmetic_good defs scope Mul a b needs refl g h w
  one_kind_good c.Div a b needs g h w = division_good defs scope Quot a b needs refl g h w
  one_kind_good c.Rem a b needs g h w = division_good defs scope Rem a b needs refl g h w
  one_kind_good c.And a b needs g h w = bitwise_good defs scope Band a b needs refl g h w
  one_kind_good c.Or a b needs g h w = bitwise_good defs scope Bor a b needs refl g h w
  one_kind_good c.Xor a b needs g h w = bitwise_good defs scope Bxor a b needs refl g h w
  one_kind_good op a b needs g h w = comparison_good defs scope op a b needs g h w

  numbers_good : (op : IntOp) (a b : Number) (needs : Needs) → GoodNumber defs scope a → GoodNumber defs scope b → W needs → Gives R (on_numbers op a b needs)
  numbers_good c.Shl a b needs g h w = shift_good defs scope Shl a b needs refl g h w
  numbers_good c.Shr a b needs g h w = shift_good defs scope Shr a b needs refl g h w
  numbers_good op a b needs g h w = chosen R (same_kind a.kind b.kind) (on_one_kind op a b needs) (Err not_number) (one_kind_good op a b needs g h w) tt

  addresses_good : (parts : List Sep) (op : IntOp) (v w : Plain) (needs : Needs) → AllByRecursion (PartIsSized defs scope) parts → V v → V w → W needs → Gives R (on_addresses defs.structs parts op v w needs)
  addresses_good parts c.Eq v w needs z g h k = pointer_equality_good false v w needs g h k
  addresses_good parts c.Ne v w needs z g h k = pointer_equality_good true v w needs g h k
  addresses_good parts op v w needs z g h k = order_good parts op v w needs z g h k

  first_good : (op : IntOp) (t : CType) (i : Plain) → G i → Gives G (way_first defs.structs op t i)
  first_good c.Add t i g = way_good false t i g
  first_good c.Sub t i g = way_good true t i g
  first_good op t i g = tt

  second_good : (op : IntOp) (t : CType) (i : Plain) → G i → Gives G (way_second defs.structs op t i)
  second_good c.Add t i g = way_good false t i g
  second_good op t i g = tt

  pub binary_good : (parts : List Sep) (op : IntOp) (a b : Operand) (needs : Needs) → AllByRecursion (PartIsSized defs scope) parts → GoodOperand a → GoodOperand b → W needs → Gives R (binary defs.structs parts op a b needs)
  binary_good parts op (OfKind a) (OfKind b) needs z g h w = numbers_good op a b needs g h w
  binary_good parts op (OfKind i) (Address t p) needs z g h w = on G R (way_second defs.structs op t i.term) (λ by. pointer_moved p by i needs) (second_good op t i.term g) (λ by x. pointer_moved_good p by i needs h x g w)
  binary_good parts op (Address t p) (OfKind i) needs z g h w = on G R (way_first defs.structs op t i.term) (λ by. pointer_moved p by i needs) (first_good op t i.term h) (λ by x. pointer_moved_good p by i needs g x h w)
  binary_good parts op (Address t v) (Address u w) needs z g h k = addresses_good parts op v w needs z g h k

  pub null_good : V null
  null_good = record { sorted = refl; allowed = (tt, tt) }

  pub unary_good : (op : UnaryOp) (a : Operand) (needs : Needs) → GoodOperand a → W needs → Gives R (unary op a needs)
  unary_good Neg (OfKind a) needs g w = negation_good defs scope a needs g w
  unary_good Complement (OfKind a) needs g w = complement_good defs scope a needs g w
  unary_good Not (OfKind a) needs g w = is_zero_good defs scope a needs g w
  unary_good Not (Address t v) needs g w = pointer_equality_good false v null needs g null_good w
  unary_good op (Address t v) needs g w = tt

  -- ---- casts

  kind_good : (t : CType) (a : Number) (needs : Needs) → GoodNumber defs scope a → W needs → Gives R (cast_to_kind t a needs)
  kind_good (Int k) a needs g w = number_cast_good defs scope k a needs g w
  kind_good t a needs g w = tt

  abbrev after_numbers : List Plain → List Sort
  after_numbers [] = Val ∷ []
  after_numbers (t ∷ ts) = Z ∷ after_numbers ts

  sorts_after : (ts : List Plain) (v : Plain) → AllByRecursion G ts → V v → sorts_of (plains (ts ++ v ∷ [])) ≡ Some (after_numbers ts)
  sorts_after [] v h g = ap (λ o. with_first o (Some [])) g.sorted
  sorts_after (t ∷ ts) v h g = ap₂ with_first h.0.sorted (sorts_after ts v h.1 g)

  numbers_before : (ts : List Plain) → numbers_then_val (after_numbers ts) ≡ true
  numbers_before [] = refl
  numbers_before (t ∷ []) = refl
  numbers_before (t ∷ u ∷ ts) = numbers_before (u ∷ ts)

  how_many : (ts : List Plain) → length (after_numbers ts) ≡ length ts + 1
  how_many [] = refl
  how_many (t ∷ ts) = let e = how_many ts in omega arith

  allowed_after : (ts : List Plain) (v : Plain) → AllByRecursion G ts → V v → AllAllowed defs.structs scope (CallsOf defs.funs) (plains (ts ++ v ∷ []))
  allowed_after [] v h g = (g.allowed, tt)
  allowed_after (t ∷ ts) v h g = (h.0.allowed, allowed_after ts v h.1 g)

  pub of_type_fits : (t : SizedType) (v : Plain) → is_scalar t.shape ≡ true → length t.sizes ≡ arrays t.shape → AllByRecursion G t.sizes → V v → Fits defs scope (of_type t v)
  of_type_fits t v scalar count h g =
      let sorts = after_numbers t.sizes in
      let right : nat_eq (length sorts) (arrays t.shape + 1) ≡ true = eq-eqb (length sorts) (arrays t.shape + 1) (how_many t.sizes ∙ ap (λ n. n + 1) count) in
      record {
        sorted = ap (λ o. takes_all (Hasty t.shape) o 0 && true) (sorts_after t.sizes v h g)
            ∙ ap (λ b. (b && (nat_eq 0 0 && (nat_eq (length sorts) (arrays t.shape + 1) && numbers_then_val sorts))) && true) scalar
            ∙ ap (λ b. (b && numbers_then_val sorts) && true) right
            ∙ ap (λ b. b && true) (numbers_before t.sizes);
        allowed = (allowed_after t.sizes v h g, tt);
      }

  pointer_good : (t : CType) (v : Plain) (needs : Needs) → V v → W needs → Gives R (cast_to_pointer t v needs)
  pointer_good (Pointer' p (more_of-CType to end_of-CType)) v needs g w =
      let c = Pointer' p (more_of-CType to end_of-CType) in
      row_good defs scope (Ok v) (of_type (sized_type c) v ∷ []) needs g (of_type_fits (sized_type c) v refl (field_sizes c).count (literals_good (sizes_of c)) g, tt) w
  pointer_good t v needs g w = tt

  pub cast_good : (to : CType) (a : Operand) (needs : Needs) → GoodOperand a → W needs → Gives R (cast to a needs)
  cast_good to (OfKind a) needs g w = kind_good to a needs g w
  cast_good to (Address t v) needs g w = pointer_good to v needs g w
