-- The names in addresses of objects along paths are known.
use Rattle.std.specs.Prelude.{option_map}
use Rattle.std.proofs.Common.{ℕ, pos, Bool, true, false, List, [], ◌∷◌, ◌++◌, Option, Some, None, Result, if◌then◌else◌}
use Rattle.std.specs.List.{AllByRecursion}
use Rattle.floyd_text.specs.declared.refusal.No.{No}
use Rattle.floyd_ctypes.specs.declared.ctype.CType.{CType}
use Rattle.floyd_ctypes.specs.declared.ctype.CType as t
use Rattle.floyd_ctypes.specs.declared.field.Field.{Field as CField}
use Rattle.floyd_ctypes.specs.Structs.{field_of}
use Rattle.floyd_tree_sorts.specs.declared.shape.Shape.{Shape, more_of-Shape, end_of-Shape}
use Rattle.floyd_tree_sorts.specs.declared.shape.Shape as s
use Rattle.floyd_tree.specs.declared.paths.PathStep.{PathStep}
use Rattle.floyd_tree.specs.declared.paths.PathStep.TheVariants.{Field, Subscript}
use Rattle.floyd_tree.specs.Plain.{Plain}
use Rattle.floyd_tree.specs.Types.{SizedType}
use Rattle.floyd_assert_cells.specs.Types.{sizes_of}
use Rattle.floyd_fieldpath.specs.Addresses.{address, on_type, path_sum, step_sum, step_term, with_term}
use Rattle.floyd_fieldpath.specs.Nested.{element_type, field_type, sized_type, type_after, type_at}
use Rattle.floyd_fieldpath.specs.Sums.{moved}
use Rattle.floyd_fieldpath.specs.Written.{on_ok}
use Rattle.floyd_symexpr_rows.specs.declared.needs.Needs.{Needs}
use Rattle.floyd_symexpr_rows.specs.declared.needs.Number.{Number}
use Rattle.floyd_symexpr_rows.specs.Formulas.{is_pointer}
use Rattle.floyd_symexpr_rows.specs.Rows.{range}
use Rattle.floyd_symexpr_paths.specs.declared.lvalue.Lvalue.{Lvalue}
use Rattle.floyd_symexpr_paths.specs.declared.lvalue.Taken.{Taken}
use Rattle.floyd_symexpr_paths.specs.Places.{address_row, element, field, object_value, own, path_of, root_sides, subscript_ranges}
use Rattle.floyd_assert_trees.specs.declared.spec.SpecTable.{SpecTable}
use Rattle.floyd_assert_trees.specs.declared.items.Defs.{Defs}
use Rattle.floyd_goal_forms.specs.Terms.{HeadsFit}
use Rattle.floyd_symexpr_forms.proofs.Answers.{Gives, both, on}
use Rattle.floyd_symexpr_known.specs.Laws.{NeedsAreKnown}
use Rattle.floyd_symexpr_known.proofs.Answers.{K, Row, Stated, is_pointer_known, literal_known, plus_known, row_known}
use Rattle.floyd_symexpr_known.proofs.Rows.{GoodNumber, range_known}
use Rattle.floyd_symexpr_known.proofs.Pointers.{IsSized, element_known, literals_known, moved_known}

module _ (defs : Defs) (specs : SpecTable) where
  abbrev G : Plain → Type 0
  G t = K defs specs t

  abbrev V : Plain → Type 0
  V t = K defs specs t

  abbrev R : Plain × Needs → Type 0
  R v = Row defs specs v

  abbrev W : Needs → Type 0
  W needs = NeedsAreKnown defs specs needs

  abbrev pub GoodStep : PathStep → Type 0
  GoodStep (Field x) = Unit {0}
  GoodStep (Subscript i) = G i

  -- ---- types along a path

  literal_type : (o : Option CField) → IsSized defs specs (option_map (λ (f : CField). sized_type f.ty) o)
  literal_type None = tt
  literal_type (Some f) = literals_known defs specs (sizes_of f.ty)

  field_sized : (shape : Shape) (x : List ℕ) → IsSized defs specs (field_type defs.structs shape x)
  field_sized (s.Struct tag) x = literal_type (field_of defs.structs tag x)
  field_sized shape x = tt

  item_sized : (shape : Shape) (sizes : List Plain) → AllByRecursion G sizes → IsSized defs specs (element_type shape sizes)
  item_sized (s.Array' p (more_of-Shape item end_of-Shape)) (n ∷ sizes) h = h.1
  item_sized shape sizes h = tt

  pub after_sized : (t : SizedType) (step : PathStep) → AllByRecursion G t.sizes → IsSized defs specs (type_after defs.structs t step)
  after_sized t (Field x) h = field_sized t.shape x
  after_sized t (Subscript i) h = item_sized t.shape t.sizes h

  pub on_sized : {A : Type 0} (P : A → Type 0) (o : Option SizedType) (f : SizedType → Result A No) → IsSized defs specs o → ((u : SizedType) → AllByRecursion G u.sizes → Gives P (f u)) → Gives P (on_type o f)
  on_sized P None f h k = tt
  on_sized P (Some u) f h k = k u h

  -- ---- addresses

  abbrev GoodSum : Option Plain → Type 0
  GoodSum None = Unit {0}
  GoodSum (Some sum) = G sum

  more_known : (sum : Option Plain) (n : Plain) → GoodSum sum → G n → Gives G (with_term sum n)
  more_known None n h g = g
  more_known (Some sum) n h g = plus_known defs specs sum n h g

  step_known : (t u : SizedType) (step : PathStep) → AllByRecursion G u.sizes → GoodStep step → Gives G (step_term defs.structs t u step)
  step_known t u (Field x) h g = (tt, tt)
  step_known t u (Subscript i) h g = element_known defs specs u i h g

  sum_known : (t : SizedType) (path : List PathStep) (sum : Option Plain) → AllByRecursion G t.sizes → AllByRecursion GoodStep path → GoodSum sum → Gives G (path_sum defs.structs t path sum)
  sum_known t [] None h p g = literal_known defs specs (pos 0)
  sum_known t [] (Some sum) h p g = g
  sum_known t (step ∷ path) sum h p g =
      on_sized G (type_after defs.structs t step) (λ u. on_ok (step_sum defs.structs t u step sum) (λ more. path_sum defs.structs u path (Some more))) (after_sized t step h)
      (λ u k. on G G (step_sum defs.structs t u step sum) (λ more. path_sum defs.structs u path (Some more))
      (on G G (step_term defs.structs t u step) (with_term sum) (step_known t u step k p.0) (λ n x. more_known sum n g x)) (λ more x. sum_known u path (Some more) k p.1 x))

  typed_or_not : (o : Option SizedType) (r : Result Plain No) → Gives V r → Gives V (on_type o (λ u. r))
  typed_or_not None r h = tt
  typed_or_not (Some u) r h = h

  pub address_known : (t : SizedType) (path : List PathStep) (root : Plain) → AllByRecursion G t.sizes → AllByRecursion GoodStep path → V root → Gives V (address defs.structs t path root)
  address_known t path root h p g =
      typed_or_not (type_at defs.structs t path) (on_ok (path_sum defs.structs t path None) (moved root))
      (on G V (path_sum defs.structs t path None) (moved root) (sum_known t path None h p tt) (λ n x. moved_known defs specs root n g x))

  -- ---- objects

  abbrev pub IsTaken : Taken → Type 0
  IsTaken taken = GoodStep taken.step

  pub record GoodLvalue (l : Lvalue) : Type 0 where
    pub root : V l.root
    pub form : AllByRecursion IsTaken l.form
    pub subscripts : AllByRecursion (GoodNumber defs specs) l.subscripts

  pub field_known : (t : CType) (x : List ℕ) (l : Lvalue) → GoodLvalue l → GoodLvalue (field t x l)
  field_known t x l g = record { root = g.root; form = both IsTaken l.form (own (Field x) (sized_type t) ∷ []) g.form (tt, tt); subscripts = g.subscripts }

  pub item_known : (t : CType) (i : Number) (l : Lvalue) → GoodNumber defs specs i → GoodLvalue l → GoodLvalue (element t i l)
  item_known t i l h g = record {
    root = g.root;
    form = both IsTaken l.form (own (Subscript i.term) (sized_type t) ∷ []) g.form (h, tt);
    subscripts = both (GoodNumber defs specs) l.subscripts (i ∷ []) g.subscripts (h, tt);
  }

  pub steps_known : (form : List Taken) → AllByRecursion IsTaken form → AllByRecursion GoodStep (path_of form)
  steps_known [] h = tt
  steps_known (taken ∷ form) h = (h.0, steps_known form h.1)

  pub ranges_known : (is : List Number) → AllByRecursion (GoodNumber defs specs) is → Stated defs specs (subscript_ranges is)
  ranges_known [] h = tt
  ranges_known (i ∷ more) h = both (HeadsFit defs specs) (range i.kind i.term) (subscript_ranges more) (range_known defs specs i.kind i.term h.0) (ranges_known more h.1)

  root_known : (l : Lvalue) → V l.root → Stated defs specs (root_sides l)
  root_known l g = by l.is_value
    where
      by : (b : Bool) → Stated defs specs (if b then is_pointer l.root ∷ [] else [])
      by true = (is_pointer_known defs specs l.root g, tt)
      by false = tt

  pub address_row_known : (l : Lvalue) (needs : Needs) → GoodLvalue l → W needs → Gives R (address_row defs.structs l needs)
  address_row_known l needs g w =
      row_known defs specs (address defs.structs (sized_type l.whole) (path_of l.form) l.root) (root_sides l ++ subscript_ranges l.subscripts) needs
      (address_known (sized_type l.whole) (path_of l.form) l.root (literals_known defs specs (sizes_of l.whole)) (steps_known l.form g.form) g.root)
      (both (HeadsFit defs specs) (root_sides l) (subscript_ranges l.subscripts) (root_known l g.root) (ranges_known l.subscripts g.subscripts)) w

  pub object_known : (c : CType) (l : Lvalue) (needs : Needs) → GoodLvalue l → W needs → Gives R (object_value defs.structs c l needs)
  object_known (t.Array' p u n) l needs g w = address_row_known l needs g w
  object_known (t.Struct tag) l needs g w = address_row_known l needs g w
  object_known (t.Function' shape ps p r) l needs g w = address_row_known l needs g w
  object_known c l needs g w = tt
