-- The names in what the rows of operators on pointers give are known, and so are those in what each operator and cast gives.
use Rattle.std.proofs.Common.{ℤ, pos, Bool, true, false, ◌&&◌, List, [], ◌∷◌, ◌++◌, map, length, Option, Some, None, Ok, Err, if◌then◌else◌}
use Rattle.std.specs.Prelude.{◌==◌, unwrap_or}
use Rattle.std.specs.List.{AllByRecursion}
use Rattle.std.specs.Option.{option_or}
use Rattle.floyd_int.specs.declared.kinds.IntOp.{IntOp}
use Rattle.floyd_int.specs.declared.kinds.IntOp.TheVariants as c
use Rattle.floyd_ctypes.specs.declared.ctype.CType.{CType, Int, Pointer', more_of-CType, end_of-CType}
use Rattle.floyd_clight.specs.declared.syntax.UnaryOp.{UnaryOp}
use Rattle.floyd_clight.specs.declared.syntax.UnaryOp.TheVariants.{Neg, Complement, Not}
use Rattle.floyd_clight_machine.specs.Types.{pointee}
use Rattle.floyd_tree_sorts.specs.declared.operators.Operator.TheVariants.{Add, Sub, Mul, Quot, Rem, Band, Bor, Bxor, Shl, Shr, Eqv, PtrAdd}
use Rattle.floyd_tree_sorts.specs.declared.shape.Shape.{Shape, more_of-Shape, end_of-Shape}
use Rattle.floyd_tree_sorts.specs.declared.shape.Shape as s
use Rattle.floyd_tree.specs.Plain.{Plain, head_of, plains}
use Rattle.floyd_tree.specs.Types.{SizedType}
use Rattle.floyd_assert_trees.specs.declared.sep.Sep.{Sep}
use Rattle.floyd_assert_trees.specs.declared.sep.Sep.TheVariants.{FieldAt, Padding, Valid, Anything, Predicate}
use Rattle.floyd_assert_cells.specs.Types.{sizes_of}
use Rattle.floyd_arith.specs.Same.{same_term}
use Rattle.floyd_fieldpath.specs.Addresses.{element_offset, size_term}
use Rattle.floyd_fieldpath.specs.Nested.{literal, sized_type}
use Rattle.floyd_fieldpath.specs.Projections.{kid_under}
use Rattle.floyd_fieldpath.specs.Sums.{moved, times, two}
use Rattle.floyd_fieldpath.specs.Sums as sums
use Rattle.floyd_fieldpath.specs.Written.{written}
use Rattle.floyd_folding.specs.Folding.{folded}
use Rattle.floyd_symexpr_rows.specs.declared.needs.Needs.{Needs}
use Rattle.floyd_symexpr_rows.specs.declared.needs.Number.{Number}
use Rattle.floyd_symexpr_rows.specs.declared.needs.Operand.{Operand}
use Rattle.floyd_symexpr_rows.specs.declared.needs.Operand.TheVariants.{OfKind, Address}
use Rattle.floyd_symexpr_rows.specs.Formulas.{is_pointer, of_type}
use Rattle.floyd_symexpr_rows.specs.Rows.{compared, no_base, not_number, null, number, range, row, vint}
use Rattle.floyd_symexpr_pointers.specs.Operators.{address_of, binary, cast, cast_to_kind, cast_to_pointer, on_addresses, on_numbers, on_one_kind, operand, same_kind, unary, way_first, way_second}
use Rattle.floyd_symexpr_pointers.specs.PointerRows.{base, compared_pointer, compared_within, directed, equality, in_object, is_null, is_ptr_add, negated_if, object_type, offset, pointer_equality, pointer_moved, pointer_order, type_in, way, within}
use Rattle.floyd_assert_trees.specs.declared.spec.SpecTable.{SpecTable}
use Rattle.floyd_assert_trees.specs.declared.items.Defs.{Defs}
use Rattle.floyd_goal_forms.specs.Terms.{AllKnown, HeadsFit}
use Rattle.floyd_symexpr_forms.proofs.Answers.{Gives, both, chosen, on}
use Rattle.floyd_symexpr_known.specs.Laws.{NeedsAreKnown, PartIsKnown}
use Rattle.floyd_symexpr_known.proofs.Answers.{K, Maybe, Row, Stated, at_most_known, folded_known, is_pointer_known, literal_known, row_known, times_known, two_known, under_known, written_known}
use Rattle.floyd_symexpr_known.proofs.Rows.{GoodNumber, arithmetic_known, bitwise_known, compared_known, comparison_known, complement_known, division_known, is_zero_known, negation_known, number_cast_known, number_known, range_known, shift_known, vint_known}

module _ (defs : Defs) (specs : SpecTable) where
  abbrev G : Plain → Type 0
  G t = K defs specs t

  abbrev V : Plain → Type 0
  V t = K defs specs t

  abbrev R : Plain × Needs → Type 0
  R v = Row defs specs v

  abbrev W : Needs → Type 0
  W needs = NeedsAreKnown defs specs needs

  -- ---- equality

  pointers_known : (v : Plain) → V v → AllByRecursion V (compared_pointer v)
  pointers_known v g = by (is_null (head_of v))
    where
      by : (b : Bool) → AllByRecursion V (if b then [] else v ∷ [])
      by true = tt
      by false = (g, tt)

  equality_known : (negated : Bool) (v w : Plain) → V v → V w → Gives G (equality negated v w)
  equality_known negated v w g h =
      on G G (written (two Eqv v w)) (negated_if negated) (written_known defs specs (two Eqv v w) (two_known defs specs Eqv v w g h))
      (λ n x. chosen G negated (folded Sub (literal (pos 1)) n) (Ok n) (folded_known defs specs Sub (literal (pos 1)) n (literal_known defs specs (pos 1)) x) x)

  pub pointer_equality_known : (negated : Bool) (v w : Plain) (needs : Needs) → V v → V w → W needs → Gives R (pointer_equality negated v w needs)
  pointer_equality_known negated v w needs g h k =
      let more : Needs = record needs { valid = needs.valid ++ compared_pointer v ++ compared_pointer w } in
      on G R (equality negated v w) (λ n. row (vint n) [] more) (equality_known negated v w g h)
      (λ n x. row_known defs specs (vint n) [] more (vint_known defs specs n x) tt
      (record { sides = k.sides; valid = both V (needs.valid ++ compared_pointer v) (compared_pointer w) (both V needs.valid (compared_pointer v) k.valid (pointers_known v g)) (pointers_known w h) }))

  -- ---- sizes

  pub literals_known : (zs : List ℤ) → AllByRecursion G (map literal zs)
  literals_known [] = tt
  literals_known (z ∷ zs) = (literal_known defs specs z, literals_known zs)

  pub size_known : (shape : Shape) (sizes : List Plain) → AllByRecursion G sizes → Gives G (size_term defs.structs shape sizes)
  size_known (s.Array' p (more_of-Shape element end_of-Shape)) (n ∷ sizes) h = on G G (size_term defs.structs element sizes) (λ bytes. times bytes n) (size_known element sizes h.1) (λ bytes x. times_known defs specs bytes n x h.0)
  size_known (s.Array' p (more_of-Shape element end_of-Shape)) [] h = (tt, tt)
  size_known s.Void sizes h = (tt, tt)
  size_known (s.Int kind) sizes h = (tt, tt)
  size_known (s.Pointer' p to) sizes h = (tt, tt)
  size_known (s.Struct tag) sizes h = (tt, tt)
  size_known (s.Function' q ps p r) sizes h = (tt, tt)

  pub element_known : (t : SizedType) (i : Plain) → AllByRecursion G t.sizes → G i → Gives G (element_offset defs.structs t i)
  element_known t i h g = on G G (size_term defs.structs t.shape t.sizes) (λ bytes. times bytes i) (size_known t.shape t.sizes h) (λ bytes x. times_known defs specs bytes i x g)

  -- ---- moved pointers

  pub moved_known : (p n : Plain) → V p → G n → Gives V (moved p n)
  moved_known p n g h = chosen V (sums.is_zero n) (Ok p) (written (two PtrAdd p n)) g (written_known defs specs (two PtrAdd p n) (two_known defs specs PtrAdd p n g h))

  known_or : (o : Option Plain) (t : Plain) → Maybe defs specs o → V t → V (unwrap_or o t)
  known_or None t h g = g
  known_or (Some u) t h g = h

  parts_known : (v : Plain) → V v → V (base v) × G (offset v)
  parts_known v g = (known_or (kid_under is_ptr_add 0 v) v (under_known defs specs is_ptr_add 0 v g) g, known_or (kid_under is_ptr_add 1 v) (literal (pos 0)) (under_known defs specs is_ptr_add 1 v g) (literal_known defs specs (pos 0)))

  way_known : (down : Bool) (element : CType) (i : Plain) → G i → Gives G (way defs.structs down element i)
  way_known down element i g =
      on G G (element_offset defs.structs (sized_type element) i) (directed down) (element_known (sized_type element) i (literals_known (sizes_of element)) g)
      (λ bytes x. chosen G down (folded Sub (literal (pos 0)) bytes) (Ok bytes) (folded_known defs specs Sub (literal (pos 0)) bytes (literal_known defs specs (pos 0)) x) x)

  pointer_moved_known : (p by : Plain) (i : Number) (needs : Needs) → V p → G by → GoodNumber defs specs i → W needs → Gives R (pointer_moved p by i needs)
  pointer_moved_known p by i needs g h k w = row_known defs specs (moved p by) (is_pointer p ∷ range i.kind i.term) needs (moved_known p by g h) (is_pointer_known defs specs p g, range_known defs specs i.kind i.term k) w

  -- ---- order

  abbrev pub IsSized : Option SizedType → Type 0
  IsSized None = Unit {0}
  IsSized (Some t) = AllByRecursion G t.sizes

  either_sized : (o p : Option SizedType) → IsSized o → IsSized p → IsSized (option_or o p)
  either_sized None p h k = k
  either_sized (Some t) p h k = h

  object_sized : (root : Plain) (part : Sep) → PartIsKnown defs part → IsSized (object_type root part)
  object_sized root (FieldAt region value) h = by (length region.path == 0 && same_term root region.root)
    where
      by : (b : Bool) → IsSized (if b then Some region.ty else None)
      by true = h
      by false = tt
  object_sized root (Padding region) h = tt
  object_sized root (Valid v) h = tt
  object_sized root Anything h = tt
  object_sized root (Predicate name terms) h = tt

  type_sized : (parts : List Sep) (root : Plain) → AllByRecursion (PartIsKnown defs) parts → IsSized (type_in parts root)
  type_sized [] root h = tt
  type_sized (part ∷ parts) root h = either_sized (object_type root part) (type_in parts root) (object_sized root part h.0) (type_sized parts root h.1)

  within_known : (bytes a b : Plain) → G bytes → G a → G b → Stated defs specs (within bytes a b)
  within_known bytes a b g h k =
      let zero = literal_known defs specs (pos 0) in (
        at_most_known defs specs (literal (pos 1)) bytes (literal_known defs specs (pos 1)) g,
        (
          at_most_known defs specs (literal (pos 0)) a zero h,
          (
            at_most_known defs specs a bytes h g,
            (at_most_known defs specs (literal (pos 0)) b zero k, (at_most_known defs specs b bytes k g, tt)),
          ),
        ),
      )

  in_object_known : (op : IntOp) (a b : Plain) (needs : Needs) (o : Option SizedType) → G a → G b → W needs → IsSized o → Gives R (in_object defs.structs op a b needs o)
  in_object_known op a b needs None g h w z = tt
  in_object_known op a b needs (Some t) g h w z =
      on G R (size_term defs.structs t.shape t.sizes) (λ bytes. compared_within op bytes a b needs) (size_known t.shape t.sizes z)
      (λ bytes x. on G R (compared op a b) (λ n. row (vint n) (within bytes a b) needs) (compared_known defs specs op a b g h) (λ n y. row_known defs specs (vint n) (within bytes a b) needs (vint_known defs specs n y) (within_known bytes a b x g h) w))

  order_known : (parts : List Sep) (op : IntOp) (v w : Plain) (needs : Needs) → AllByRecursion (PartIsKnown defs) parts → V v → V w → W needs → Gives R (pointer_order defs.structs parts op v w needs)
  order_known parts op v w needs z g h k =
      chosen R (same_term (base v) (base w)) (in_object defs.structs op (offset v) (offset w) needs (type_in parts (base v))) (Err no_base)
      (in_object_known op (offset v) (offset w) needs (type_in parts (base v)) (parts_known v g).1 (parts_known w h).1 k (type_sized parts (base v) z)) tt

  -- ---- operators

  abbrev pub GoodOperand : Operand → Type 0
  GoodOperand (OfKind a) = GoodNumber defs specs a
  GoodOperand (Address t v) = V v

  address_known : (o : Option CType) (v : Plain) → V v → Gives GoodOperand (address_of o v)
  address_known None v g = tt
  address_known (Some t) v g = g

  pub operand_known : (t : CType) (v : Plain) → V v → Gives GoodOperand (operand t v)
  operand_known (Int k) v g = on (GoodNumber defs specs) GoodOperand (number k v) (λ n. Ok (OfKind n)) (number_known defs specs k v g) (λ n x. x)
  operand_known t v g = address_known (pointee t) v g

  one_kind_known : (op : IntOp) (a b : Number) (needs : Needs) → GoodNumber defs specs a → GoodNumber defs specs b → W needs → Gives R (on_one_kind op a b needs)
  one_kind_known c.Add a b needs g h w = arithmetic_known defs specs Add a b needs g h w
  one_kind_known c.Sub a b needs g h w = arithmetic_known defs specs Sub a b needs g h w
  one_kind_known c.Mul a b needs g h w = arithmetic_known defs specs Mul a b needs g h w
  one_kind_known c.Div a b needs g h w = division_known defs specs Quot a b needs g h w
  one_kind_known c.Rem a b needs g h w = division_known defs specs Rem a b needs g h w
  one_kind_known c.And a b needs g h w = bitwise_known defs specs Band a b needs g h w
  one_kind_known c.Or a b needs g h w = bitwise_known defs specs Bor a b needs g h w
  one_kind_known c.Xor a b needs g h w = bitwise_known defs specs Bxor a b needs g h w
  one_kind_known op a b needs g h w = comparison_known defs specs op a b needs g h w

  numbers_known : (op : IntOp) (a b : Number) (needs : Needs) → GoodNumber defs specs a → GoodNumber defs specs b → W needs → Gives R (on_numbers op a b needs)
  numbers_known c.Shl a b needs g h w = shift_known defs specs Shl a b needs g h w
  numbers_known c.Shr a b needs g h w = shift_known defs specs Shr a b needs g h w
  numbers_known op a b needs g h w = chosen R (same_kind a.kind b.kind) (on_one_kind op a b needs) (Err not_number) (one_kind_known op a b needs g h w) tt

  addresses_known : (parts : List Sep) (op : IntOp) (v w : Plain) (needs : Needs) → AllByRecursion (PartIsKnown defs) parts → V v → V w → W needs → Gives R (on_addresses defs.structs parts op v w needs)
  addresses_known parts c.Eq v w needs z g h k = pointer_equality_known false v w needs g h k
  addresses_known parts c.Ne v w needs z g h k = pointer_equality_known true v w needs g h k
  addresses_known parts op v w needs z g h k = order_known parts op v w needs z g h k

  first_known : (op : IntOp) (t : CType) (i : Plain) → G i → Gives G (way_first defs.structs op t i)
  first_known c.Add t i g = way_known false t i g
  first_known c.Sub t i g = way_known true t i g
  first_known op t i g = tt

  second_known : (op : IntOp) (t : CType) (i : Plain) → G i → Gives G (way_second defs.structs op t i)
  second_known c.Add t i g = way_known false t i g
  second_known op t i g = tt

  pub binary_known : (parts : List Sep) (op : IntOp) (a b : Operand) (needs : Needs) → AllByRecursion (PartIsKnown defs) parts → GoodOperand a → GoodOperand b → W needs → Gives R (binary defs.structs parts op a b needs)
  binary_known parts op (OfKind a) (OfKind b) needs z g h w = numbers_known op a b needs g h w
  binary_known parts op (OfKind i) (Address t p) needs z g h w = on G R (way_second defs.structs op t i.term) (λ by. pointer_moved p by i needs) (second_known op t i.term g) (λ by x. pointer_moved_known p by i needs h x g w)
  binary_known parts op (Address t p) (OfKind i) needs z g h w = on G R (way_first defs.structs op t i.term) (λ by. pointer_moved p by i needs) (first_known op t i.term h) (λ by x. pointer_moved_known p by i needs g x h w)
  binary_known parts op (Address t v) (Address u w) needs z g h k = addresses_known parts op v w needs z g h k

  pub null_known : V null
  null_known = (tt, tt)

  pub unary_known : (op : UnaryOp) (a : Operand) (needs : Needs) → GoodOperand a → W needs → Gives R (unary op a needs)
  unary_known Neg (OfKind a) needs g w = negation_known defs specs a needs g w
  unary_known Complement (OfKind a) needs g w = complement_known defs specs a needs g w
  unary_known Not (OfKind a) needs g w = is_zero_known defs specs a needs g w
  unary_known Not (Address t v) needs g w = pointer_equality_known false v null needs g null_known w
  unary_known op (Address t v) needs g w = tt

  -- ---- casts

  kind_known : (t : CType) (a : Number) (needs : Needs) → GoodNumber defs specs a → W needs → Gives R (cast_to_kind t a needs)
  kind_known (Int k) a needs g w = number_cast_known defs specs k a needs g w
  kind_known t a needs g w = tt

  all_known : (ts : List Plain) (v : Plain) → AllByRecursion G ts → V v → AllKnown defs (plains (ts ++ v ∷ []))
  all_known [] v h g = (g, tt)
  all_known (t ∷ ts) v h g = (h.0, all_known ts v h.1 g)

  pub of_type_known : (t : SizedType) (v : Plain) → AllByRecursion G t.sizes → V v → HeadsFit defs specs (of_type t v)
  of_type_known t v h g = (tt, all_known t.sizes v h g, tt)

  pointer_known : (t : CType) (v : Plain) (needs : Needs) → V v → W needs → Gives R (cast_to_pointer t v needs)
  pointer_known (Pointer' p (more_of-CType to end_of-CType)) v needs g w =
      let c = Pointer' p (more_of-CType to end_of-CType) in
      row_known defs specs (Ok v) (of_type (sized_type c) v ∷ []) needs g (of_type_known (sized_type c) v (literals_known (sizes_of c)) g, tt) w
  pointer_known t v needs g w = tt

  pub cast_known : (to : CType) (a : Operand) (needs : Needs) → GoodOperand a → W needs → Gives R (cast to a needs)
  cast_known to (OfKind a) needs g w = kind_known to a needs g w
  cast_known to (Address t v) needs g w = pointer_known to v needs g w
