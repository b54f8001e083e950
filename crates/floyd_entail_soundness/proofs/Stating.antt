-- `facts`: what a part of memory says of its address, its value and its share.
use Rattle.std.proofs.Common.{◌≡◌, ℕ, suc, ◌+◌, ◌<◌, Bool, true, false, ℤ, pos, List, [], ◌∷◌, ◌++◌, length, map, Option, Some, None, Result, Ok, refl, sym, ap, subst, ◌∙◌, arith, le-leb}
use Rattle.std.specs.Prelude.{if◌then◌else◌, int_le, is_some, option_map, slice_get}
use Rattle.std.specs.List.{AllByRecursion, flat_map}
use Rattle.std.proofs.lemmas.List.{length-map}
use Rattle.std.proofs.lemmas.Option.{same_Some}
use Rattle.floyd_int.specs.declared.kinds.Value.TheVariants.{Vptr}
use Rattle.floyd_text.specs.declared.refusal.No.{No}
use Rattle.floyd_ctypes.specs.Structs.{Structs}
use Rattle.floyd_clight_heap.specs.Heaplet.{Heaplet}
use Rattle.floyd_tree_sorts.specs.declared.operators.Operator.TheVariants.{Len}
use Rattle.floyd_tree_sorts.specs.declared.shape.Shape.{Shape, Void, Int, Pointer', Array', Struct, Function', more_of-Shape, end_of-Shape}
use Rattle.floyd_tree_sorts.specs.Table.{arrays}
use Rattle.floyd_tree.specs.declared.paths.PathStep.{PathStep}
use Rattle.floyd_tree.specs.declared.paths.PathStep.TheVariants.{Field, Subscript}
use Rattle.floyd_tree.specs.Formulas.{PlainFormula}
use Rattle.floyd_tree.specs.Plain.{Plain, plains}
use Rattle.floyd_tree.specs.Types.{SizedType}
use Rattle.floyd_tree_values.specs.BuiltIns.{Env}
use Rattle.floyd_tree_values.specs.Data.{Datum, Number, Val, items_in}
use Rattle.floyd_tree_values.specs.Means.{Defs, Means, AllMean, none, more}
use Rattle.floyd_tree_values.specs.Rules.{Scope}
use Rattle.floyd_truth.specs.Compatible.{IsCompatible, path_of}
use Rattle.floyd_truth.specs.Truth.{AllTrue, Truth, numbers_then}
use Rattle.floyd_assert_cells.specs.Cells.{Cells, Located}
use Rattle.floyd_assert_cells.specs.Laws.{array_of}
use Rattle.floyd_assert_cells.specs.Types.{Step, Dot, At, compatible}
use Rattle.floyd_assert_cells.proofs.ObjectLaws.{arrays_have_items, cells_are_exact}
use Rattle.floyd_assert_changes.specs.Changed.{step_terms}
use Rattle.floyd_assert_trees.specs.declared.items.Defs as items
use Rattle.floyd_assert_trees.specs.declared.sep.Region.{Region}
use Rattle.floyd_assert_trees.specs.declared.sep.Sep.{Sep}
use Rattle.floyd_assert_trees.specs.declared.sep.Sep.TheVariants.{FieldAt, Padding, Valid, Anything, Predicate}
use Rattle.floyd_assert_trees.specs.declared.spec.SpecTable.{SpecTable}
use Rattle.floyd_assert_meaning.specs.Parts.{ObjectHolds, PartHolds, PathMeans, RegionMeans, sized_as}
use Rattle.floyd_assert_meaning.specs.Settings.{Setting}
use Rattle.floyd_assert_meaning.proofs.Inversions.{object_of}
use Rattle.floyd_compatible_laws.proofs.Agreeing.{objects_agree}
use Rattle.floyd_fieldpath.specs.Nested.{literal, nested_type, type_at}
use Rattle.floyd_fieldpath.specs.Projections.{one}
use Rattle.floyd_fieldpath.specs.Sums.{literal_in}
use Rattle.floyd_fieldpath.specs.Written.{on_ok, written}
use Rattle.floyd_fieldpath_laws.proofs.AddressMeanings.{TypeMeans, first_size}
use Rattle.floyd_fieldpath_laws.proofs.Meanings.{literal_means, on_ok_is, one_means, written_is}
use Rattle.floyd_part_laws.specs.Laws.{IsPlace}
use Rattle.floyd_part_laws.proofs.Regions.{type_there}
use Rattle.floyd_goal.specs.Goals.{enriched, in_context}
use Rattle.floyd_goal_trees.specs.Contexts.{context_of, scope_of}
use Rattle.floyd_goal_trees.specs.declared.goal.Goal.{Goal}
use Rattle.floyd_goal_forms.specs.Assertions.{PartFits, PredicatesOf}
use Rattle.floyd_goal_forms.specs.Goals.{IsWellFormed}
use Rattle.floyd_goal_meaning.specs.GoalHolds.{HoldsFor}
use Rattle.floyd_goal_meaning.specs.Programs.{setting}
use Rattle.floyd_goal_laws.proofs.Givens.{given_more}
use Rattle.floyd_goal_parts.specs.Rows.{OfResult}
use Rattle.floyd_goal_parts.specs.Sources.{part_of}
use Rattle.floyd_goal_parts.specs.Writing.{at_most, equation, is_pointer}
use Rattle.floyd_goal_plans.specs.Counts.{count_of, is_array}
use Rattle.floyd_entail.specs.Facts.{HasMore, OfPart, address_facts, compatible as says_compatible, compatible_terms, count_facts, facts, facts_of, in_turn, length_facts, share_bounds, share_facts, step_shape, value_facts}
use Rattle.floyd_entail_soundness.proofs.InPlace.{is_place, typed_at}
use Rattle.floyd_entail_soundness.proofs.Placing.{of_number, part_seen, same_Ok}
use Rattle.floyd_entail_soundness.proofs.Sources.{from_hypotheses, no_existentials, of_result, part_found, parts_alone, parts_fit}
use Rattle.floyd_entail_soundness.proofs.Written.{all_written_is, both_true, means_count, means_joined, says_at_most, says_equal, written_sorted}

-- ---- paths

-- the subscripts of a path
abbrev subscripts : List Step → List ℤ
subscripts [] = []
subscripts (Dot y ∷ steps) = subscripts steps
subscripts (At i ∷ steps) = i ∷ subscripts steps

numbers_joined : (xs ys : List ℤ) (d : Datum) → map Number xs ++ (map Number ys ++ d ∷ []) ≡ numbers_then (xs ++ ys) d
numbers_joined [] ys d = refl
numbers_joined (x ∷ xs) ys d = ap (λ ds. Number x ∷ ds) (numbers_joined xs ys d)

module _ (defs : Defs) (env : Env) where
  steps_mean : (path : List PathStep) (steps : List Step) → PathMeans defs env path steps → AllMean defs env (plains (flat_map step_terms path)) (map Number (subscripts steps))
  steps_mean [] [] p = none
  steps_mean (Field x ∷ path) (Dot y ∷ steps) p = steps_mean path steps p.1
  steps_mean (Subscript t ∷ path) (At i ∷ steps) p = more p.0 (steps_mean path steps p.1)
  steps_mean path steps p = absurd p

  steps_path : (path : List PathStep) (steps : List Step) → PathMeans defs env path steps → path_of (map step_shape path) (subscripts steps) ≡ Some steps
  steps_path [] [] p = refl
  steps_path (Field x ∷ path) (Dot y ∷ steps) p = ap (option_map (λ q. Dot x ∷ q)) (steps_path path steps p.1) ∙ ap (λ z. Some (Dot z ∷ steps)) p.0
  steps_path (Subscript t ∷ path) (At i ∷ steps) p = ap (option_map (λ q. At i ∷ q)) (steps_path path steps p.1)
  steps_path path steps p = absurd p

-- ---- arrays

-- a type that has a number of elements is an array's
record IsArray (shape : Shape) (sizes : List Plain) (n : Plain) : Type 0 where
  pub element : Shape
  pub rest : List Plain
  pub shape_is : shape ≡ Array' tt (more_of-Shape element end_of-Shape)
  pub sizes_are : sizes ≡ n ∷ rest

counted : (shape : Shape) (sizes : List Plain) (n : Plain) → (if is_array shape then slice_get sizes 0 else None) ≡ Some n → IsArray shape sizes n
counted (Array' p (more_of-Shape element end_of-Shape)) (m ∷ rest) n e = record { element = element; rest = rest; shape_is = refl; sizes_are = ap (λ x. x ∷ rest) (same_Some {A = Plain} m n e) }
counted (Array' p (more_of-Shape element end_of-Shape)) [] n e = absurd cc
counted Void sizes n e = absurd cc
counted (Int kind) sizes n e = absurd cc
counted (Pointer' p t) sizes n e = absurd cc
counted (Struct tag) sizes n e = absurd cc
counted (Function' q ps p r) sizes n e = absurd cc

not_negative : (k : ℕ) → int_le (pos 0) (pos k) ≡ true
not_negative k = le-leb 0 k (omega arith)

-- ---- shares

share_low : (less : ℕ) → int_le (pos 1) (pos (suc less)) ≡ true
share_low less = le-leb 1 (suc less) (omega arith)

share_high : (less : ℕ) → less < 16 → int_le (pos (suc less)) (pos 16) ≡ true
share_high less low = le-leb (suc less) 16 (omega (arith, low))

-- ---- what the formulas say

module _ (S : Setting) (env : Env) where
  abbrev AreTrue : List PlainFormula → Type 0
  AreTrue fs = AllTrue S.defs S.has_spec env fs

  turns : (front back : Result (List PlainFormula) No) (fs : List PlainFormula) → in_turn front back ≡ Ok fs → ((xs : List PlainFormula) → front ≡ Ok xs → AreTrue xs) → ((ys : List PlainFormula) → back ≡ Ok ys → AreTrue ys) → AreTrue fs
  turns front back fs e a b =
      let p = on_ok_is front (λ xs. on_ok back (λ ys. Ok (xs ++ ys))) fs e in
      let q = on_ok_is back (λ ys. Ok (p.0 ++ ys)) fs p.2 in
      subst AreTrue (same_Ok {A = List PlainFormula} (p.0 ++ q.0) fs q.2) (both_true S.defs env S.has_spec p.0 q.0 (a p.0 p.1) (b q.0 q.1))

  module _ (r : Region) (m : RegionMeans S.defs env r) (l : Located S.defs.structs (sized_as r m.sizes) m.path m.root) (place : IsPlace S.defs.structs r) where
    points : Means S.defs env r.root (Val (Vptr l.block l.offset))
    points = subst (λ v. Means S.defs env r.root (Val v)) l.points m.of_root

    says_pointer : Truth S.defs S.has_spec env (is_pointer r.root)
    says_pointer = (l.block, l.offset, more points none)

    fits_there : IsCompatible S.defs.structs r.ty.shape m.sizes (map step_shape r.path) (subscripts m.path) l.offset
    fits_there =
        let count : length m.sizes ≡ arrays r.ty.shape = sym (means_count S.defs env r.ty.sizes (map Number m.sizes) m.of_sizes ∙ length-map m.sizes Number) ∙ place.sizes.count in
        let fits : compatible S.defs.structs (sized_as r m.sizes) m.path (Vptr l.block l.offset) ≡ true = ap (compatible S.defs.structs (sized_as r m.sizes) m.path) (sym l.points) ∙ l.fits in
        (objects_agree S.defs.structs (sized_as r m.sizes) (map step_shape r.path) (subscripts m.path) m.path l.block l.offset count (steps_path S.defs env r.path m.path m.of_path)).0 fits

    says_fitting : Truth S.defs S.has_spec env (says_compatible r)
    says_fitting =
        let root = Val (Vptr l.block l.offset) in
        let behind = means_joined S.defs env (flat_map step_terms r.path) (r.root ∷ []) (map Number (subscripts m.path)) (root ∷ []) (steps_mean S.defs env r.path m.path m.of_path) (more points none) in
        let all = means_joined S.defs env r.ty.sizes (flat_map step_terms r.path ++ r.root ∷ []) (map Number m.sizes) (map Number (subscripts m.path) ++ root ∷ []) m.of_sizes behind in
        (m.sizes, subscripts m.path, l.block, l.offset, subst (AllMean S.defs env (plains (compatible_terms r))) (numbers_joined m.sizes (subscripts m.path) root) all, fits_there)

    address_true : (fs : List PlainFormula) → address_facts r ≡ Ok fs → AreTrue fs
    address_true fs e = subst AreTrue (all_written_is (is_pointer r.root ∷ says_compatible r ∷ []) fs e) (says_pointer, (says_fitting, tt))

    share_true : (less : ℕ) → m.share ≡ pos (suc less) → less < 16 → (fs : List PlainFormula) → share_facts r.share ≡ Ok fs → AreTrue fs
    share_true less is small fs e = by (is_some (literal_in r.share)) e
      where
        share : Means S.defs env r.share (Number (pos (suc less)))
        share = subst (λ z. Means S.defs env r.share (Number z)) is m.of_share

        bounds : AreTrue (at_most (literal (pos 1)) r.share ∷ at_most r.share (literal (pos 16)) ∷ [])
        bounds = (
          says_at_most S.defs env S.has_spec (literal (pos 1)) r.share (pos 1) (pos (suc less)) (literal_means S.defs env (pos 1)) share (share_low less),
          (says_at_most S.defs env S.has_spec r.share (literal (pos 16)) (pos (suc less)) (pos 16) share (literal_means S.defs env (pos 16)) (share_high less small), tt),
        )

        by : (b : Bool) → ◌≡◌ {A = Result (List PlainFormula) No} (if b then Ok [] else share_bounds r.share) (Ok fs) → AreTrue fs
        by true f = subst AreTrue (same_Ok {A = List PlainFormula} [] fs f) tt
        by false f = subst AreTrue (all_written_is (at_most (literal (pos 1)) r.share ∷ at_most r.share (literal (pos 16)) ∷ []) fs f) bounds

    module _ (u : SizedType) (t : TypeMeans S.defs env u l.type) (value : Plain) (d : Datum) (means : Means S.defs env value d) (h : Heaplet) (cells : Cells S.defs.structs m.share l.type d l.block (l.offset + l.shift) h) where
      -- the number of elements is that of the items
      count_true : (n c : Plain) (fs : List PlainFormula) → IsArray u.shape u.sizes n → written (one Len value) ≡ Ok c → count_facts n c ≡ Ok fs → AreTrue fs
      count_true n c fs a w e =
          let sizes : AllMean S.defs env (plains (n ∷ a.rest)) (map Number l.type.sizes) = subst (λ ts. AllMean S.defs env (plains ts) (map Number l.type.sizes)) a.sizes_are t.sizes in
          let z = first_size S.defs env n a.rest l.type.sizes sizes in
          let whole : Cells S.defs.structs m.share (array_of z.0 (record { shape = a.element; sizes = z.1 })) d l.block (l.offset + l.shift) h =
          subst (λ s. Cells S.defs.structs m.share (record { shape = s; sizes = z.0 ∷ z.1 }) d l.block (l.offset + l.shift) h) (t.shape ∙ a.shape_is)
          (subst (λ ns. Cells S.defs.structs m.share (record { shape = l.type.shape; sizes = ns }) d l.block (l.offset + l.shift) h) z.2 cells) in
          let items = arrays_have_items S.defs.structs m.share z.0 (record { shape = a.element; sizes = z.1 }) d l.block (l.offset + l.shift) h whole in
          let count : Means S.defs env n (Number (pos (length (items_in d)))) = subst (λ x. Means S.defs env n (Number x)) items.0 z.3 in
          let sort = written_sorted (one Len value) c w in
          let long : Means S.defs env c (Number (pos (length (items_in d)))) = subst (λ x. Means S.defs env x (Number (pos (length (items_in d))))) (written_is (one Len value) c w) (one_means S.defs env Len sort.0 value d sort.1 means) in
          subst AreTrue (all_written_is (equation c n ∷ at_most (literal (pos 0)) n ∷ []) fs e) (
            says_equal S.defs env S.has_spec c n (Number (pos (length (items_in d)))) long count,
            (says_at_most S.defs env S.has_spec (literal (pos 0)) n (pos 0) (pos (length (items_in d))) (literal_means S.defs env (pos 0)) count (not_negative (length (items_in d))), tt),
          )

      length_true : (o : Option Plain) (fs : List PlainFormula) → count_of u ≡ o → length_facts value o ≡ Ok fs → AreTrue fs
      length_true None fs k e = subst AreTrue (same_Ok {A = List PlainFormula} [] fs e) tt
      length_true (Some n) fs k e =
          let w = on_ok_is (written (one Len value)) (count_facts n) fs e in
          count_true n w.0 fs (counted u.shape u.sizes n k) w.1 w.2

      facts_true : (fs : List PlainFormula) → facts r value u ≡ Ok fs → AreTrue fs
      facts_true fs e =
          let x = cells_are_exact S.defs.structs m.share l.type d l.block (l.offset + l.shift) h cells in
          turns (address_facts r) (value_facts r value u) fs e address_true
          (λ ys f. turns (length_facts value (count_of u)) (share_facts r.share) ys f (λ zs g. length_true (count_of u) zs refl g) (λ zs g. share_true x.less x.is x.small zs g))

  -- what a part says is true where it holds
  pub part_says : (r : Region) (u : SizedType) (value : Plain) (h : Heaplet) (fs : List PlainFormula) → IsPlace S.defs.structs r → type_at S.defs.structs r.ty r.path ≡ Some u → facts r value u ≡ Ok fs → ObjectHolds S env r value h → AreTrue fs
  part_says r u value h fs place nested e (m, d, means, (l, cells)) = facts_true r m l place u (type_there S env r m u l nested) value d means h cells fs e

-- ---- the command

pub says : (defs : items.Defs) (scope : Scope) (structs : Structs) (S : Setting) (env : Env) (p : Sep) (fs : List PlainFormula) (h : Heaplet) → structs ≡ defs.structs → structs ≡ S.defs.structs → PartFits defs scope (PredicatesOf defs scope) p →
    facts_of structs p ≡ Ok fs → PartHolds S env p h → AllTrue S.defs S.has_spec env fs
says defs scope structs S env (FieldAt r v) fs h same seen fits made holds =
    let a = on_ok_is (nested_type structs r.ty r.path) (facts r v) fs made in
    part_says S env r a.0 v h fs
    (subst (λ s. IsPlace s r) (sym same ∙ seen) (is_place defs scope r fits.region))
    (subst (λ s. type_at s r.ty r.path ≡ Some a.0) seen (typed_at structs r.ty a.0 r.path a.1))
    a.2 (object_of holds)
says defs scope structs S env (Padding r) fs h same seen fits made holds = absurd cc
says defs scope structs S env (Valid t) fs h same seen fits made holds = absurd cc
says defs scope structs S env Anything fs h same seen fits made holds = absurd cc
says defs scope structs S env (Predicate name terms) fs h same seen fits made holds = absurd cc

pub facts_sound : (defs : items.Defs) (specs : SpecTable) (n : ℕ) (goal : Goal) (k : ℕ) (goals : List Goal) → IsWellFormed defs specs goal → OfResult (part_of goal k) (OfPart defs.structs goal) (Ok goals) → AllByRecursion (HoldsFor defs specs n) goals → HoldsFor defs specs n goal
facts_sound defs specs n goal k goals formed row h =
    let found = of_result (part_of goal k) (OfPart defs.structs goal) goals row in
    let source = found.0.0 in
    let part = found.0.1 in
    let is = part_found goal k source part found.1 in
    let made = of_result (facts_of defs.structs part) (HasMore goal) goals found.2 in
    let after = in_context goal (enriched (context_of goal) made.0) in
    let same : goals ≡ after ∷ [] = same_Ok {A = List Goal} goals (after ∷ []) made.2 in
    let one : HoldsFor defs specs n after = (subst (AllByRecursion (HoldsFor defs specs n)) same h).0 in
    let scope = scope_of (context_of goal) in
    let fits = of_number (PartFits defs scope (PredicatesOf defs scope)) k source.parts part is.part_is (parts_fit defs specs goal source is.source_is formed) in
    record {
      in_each = λ L more place has apart lemmas env given.
          from_hypotheses L more place defs specs n goal (enriched (context_of goal) made.0) source env is.source_is
          (λ temps g x.
          let q = part_seen (setting L more place) env k source.parts part g is.part_is (parts_alone (setting L more place) env source temps g (no_existentials goal source is.source_is) x) in
          given_more (setting L more place) defs env (context_of goal) made.0 given (says defs scope defs.structs (setting L more place) env part made.0 q.0 refl (sym has.structs) fits made.1 q.1))
          (one.in_each L more place has apart lemmas);
    }
