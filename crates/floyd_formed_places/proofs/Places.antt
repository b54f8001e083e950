-- What is written along the path of a well-formed place is well formed.
use Rattle.std.proofs.Common.{◌≡◌, Bool, true, false, ℤ, List, [], ◌∷◌, ◌++◌, map, Option, Some, None, Result, Ok, All, refl, sym, subst}
use Rattle.std.specs.Prelude.{IsSome, ◌*ℤ◌, ◌+ℤ◌, if◌then◌else◌, pos}
use Rattle.std.specs.List.{AllByRecursion, flat_map}
use Rattle.std.proofs.lemmas.List.Elements.{All-head, All-tail}
use Rattle.floyd_text.specs.declared.refusal.No.{No}
use Rattle.floyd_tree_sorts.specs.declared.heads.Head.TheVariants as h
use Rattle.floyd_tree_sorts.specs.declared.operators.Operator.{Operator}
use Rattle.floyd_tree_sorts.specs.declared.operators.Operator.TheVariants.{Add, Mul, PtrAdd, Vundef}
use Rattle.floyd_tree_sorts.specs.declared.shape.Shape.{Shape, more_of-Shape, end_of-Shape}
use Rattle.floyd_tree_sorts.specs.declared.shape.Shape as s
use Rattle.floyd_tree_sorts.specs.declared.sorts.Sort.{Sort, Z, Val}
use Rattle.floyd_tree_sorts.specs.Rows.{is_scalar}
use Rattle.floyd_tree.specs.declared.paths.PathStep.{PathStep}
use Rattle.floyd_tree.specs.declared.paths.PathStep.TheVariants.{Field as FieldStep, Subscript}
use Rattle.floyd_tree.specs.Plain.{Plain, At, Done, plains}
use Rattle.floyd_tree.specs.Types.{SizedType}
use Rattle.floyd_tree_values.specs.Defaults.{value_sort}
use Rattle.floyd_tree_values.specs.Rules.{AllAllowed, CallsOf, EachAllowed, Scope}
use Rattle.floyd_assert_cells.specs.Types.{sizes_of}
use Rattle.floyd_assert_changes.specs.Changed.{step_terms}
use Rattle.floyd_assert_trees.specs.declared.items.Defs.{Defs}
use Rattle.floyd_assert_trees.specs.declared.sep.Region.{Region}
use Rattle.floyd_assert_trees.specs.Meanings.{value_defs}
use Rattle.floyd_fieldpath.specs.Addresses.{address, on_type, path_sum, size_term, step_sum, step_term, with_term}
use Rattle.floyd_fieldpath.specs.DefaultTerms.{default_term}
use Rattle.floyd_fieldpath.specs.Nested.{literal, type_after, type_at}
use Rattle.floyd_fieldpath.specs.Projections.{default_of, default_with}
use Rattle.floyd_fieldpath.specs.Sums.{is_zero, literal_in, literal_or, moved, of_both, plus, small, times, two}
use Rattle.floyd_fieldpath.specs.Written.{on_ok, written}
use Rattle.floyd_fieldpath_laws.specs.Conditions.{IsNumber}
use Rattle.floyd_fieldpath_laws.specs.SortLaws.{IsNested}
use Rattle.floyd_fieldpath_laws.proofs.AddressMeanings.{answered}
use Rattle.floyd_fieldpath_laws.proofs.Meanings.{on_ok_is, written_is}
use Rattle.floyd_fieldpath_laws.proofs.SortedAddresses.{addresses_are_values}
use Rattle.floyd_fieldpath_laws.proofs.SortedItems.{default_made}
use Rattle.floyd_fieldpath_laws.proofs.TypeSorts.{is_element, is_field, step_some, types_have_sorts}
use Rattle.floyd_goal_forms.specs.Assertions.{RegionFits, StepFits}
use Rattle.floyd_goal_forms.specs.Terms.{AllKnown, GlobalsKnown, TermFits, TypeFits}
use Rattle.floyd_entail_soundness.proofs.InPlace.{is_place}
use Rattle.floyd_entail_soundness.proofs.Placing.{same_Ok}

module _ (defs : Defs) (scope : Scope) where
  -- each node of the term is allowed, and its names are known
  abbrev pub Fine : Plain → Type 0
  Fine t = EachAllowed defs.structs scope (CallsOf (value_defs defs).funs) t × GlobalsKnown defs t

  abbrev pub AreFine : List Plain → Type 0
  AreFine ts = AllByRecursion Fine ts

  pub list_fine : (ts : List Plain) → AreFine ts → AllAllowed defs.structs scope (CallsOf (value_defs defs).funs) (plains ts) × AllKnown defs (plains ts)
  list_fine [] k = (tt, tt)
  list_fine (t ∷ ts) k = let p = list_fine ts k.1 in ((k.0.0, p.0), (k.0.1, p.1))

  pub term_fine : (q : Sort) (t : Plain) → TermFits defs scope q t → Fine t
  term_fine q t k = (k.fits.allowed, k.known)

  pub sizes_fine : (ts : List Plain) → AllByRecursion (TermFits defs scope Z) ts → AreFine ts
  sizes_fine [] k = tt
  sizes_fine (t ∷ ts) k = (term_fine Z t k.0, sizes_fine ts k.1)

  pub steps_fine : (path : List PathStep) → AllByRecursion (StepFits defs scope) path → AreFine (flat_map step_terms path)
  steps_fine [] k = tt
  steps_fine (FieldStep x ∷ path) k = steps_fine path k.1
  steps_fine (Subscript t ∷ path) k = (term_fine Z t k.0, steps_fine path k.1)

  pub literal_fine : (z : ℤ) → Fine (literal z)
  literal_fine z = ((tt, tt), (tt, tt))

  two_fine : (operator : Operator) (a b : Plain) → Fine a → Fine b → Fine (two operator a b)
  two_fine operator a b p q = ((tt, (p.0, (q.0, tt))), (tt, (p.1, (q.1, tt))))

  written_fine : (t c : Plain) → Fine t → written t ≡ Ok c → Fine c
  written_fine t c k e = subst Fine (written_is t c e) k

  folded_fine : (o : Option ℤ) (t c : Plain) → Fine t → literal_or o t ≡ Ok c → Fine c
  folded_fine None t c k e = written_fine t c k e
  folded_fine (Some z) t c k e = subst Fine (same_Ok {A = Plain} (literal z) c e) (literal_fine z)

  constant_fine : (z : ℤ) (c : Plain) → ◌≡◌ {A = Result Plain No} (Ok (literal z)) (Ok c) → Fine c
  constant_fine z c e = subst Fine (same_Ok {A = Plain} (literal z) c e) (literal_fine z)

  times_fine : (a b c : Plain) → Fine a → Fine b → times a b ≡ Ok c → Fine c
  times_fine a b c p q e = folded_fine (small (of_both (λ x y. x *ℤ y) (literal_in a) (literal_in b))) (two Mul a b) c (two_fine Mul a b p q) e

  plus_fine : (a b c : Plain) → Fine a → Fine b → plus a b ≡ Ok c → Fine c
  plus_fine a b c p q e = folded_fine (small (of_both (λ x y. x +ℤ y) (literal_in a) (literal_in b))) (two Add a b) c (two_fine Add a b p q) e

  -- ---- types along a path

  literals_fine : (zs : List ℤ) → AreFine (map literal zs)
  literals_fine [] = tt
  literals_fine (z ∷ zs) = (literal_fine z, literals_fine zs)

  after_fine : (t u : SizedType) (step : PathStep) → AreFine t.sizes → type_after defs.structs t step ≡ Some u → AreFine u.sizes
  after_fine t u (FieldStep x) k e =
      let f = is_field defs.structs t.shape x u e in
      subst (λ (v : SizedType). AreFine v.sizes) (sym f.type) (literals_fine (sizes_of f.field.ty))
  after_fine t u (Subscript i) k e =
      let q = is_element t.shape t.sizes u e in
      let all : AreFine (q.count ∷ u.sizes) = subst AreFine q.sizes_are k in
      all.1

  pub path_fine : (path : List PathStep) (t u : SizedType) → AreFine t.sizes → type_at defs.structs t path ≡ Some u → AreFine u.sizes
  path_fine [] t u k e =
      let same : t ≡ u = cc in
      subst (λ (v : SizedType). AreFine v.sizes) same k
  path_fine (step ∷ path) t u k e =
      let a = step_some defs.structs path (type_after defs.structs t step) u e in
      path_fine path a.0 u (after_fine t a.0 step k a.1) a.2

  pub size_fine : (shape : Shape) (sizes : List Plain) (c : Plain) → AreFine sizes → size_term defs.structs shape sizes ≡ Ok c → Fine c
  size_fine (s.Array' p (more_of-Shape element end_of-Shape)) (n ∷ sizes) c k e =
      let q = on_ok_is (size_term defs.structs element sizes) (λ bytes. times bytes n) c e in
      times_fine q.0 n c (size_fine element sizes q.0 k.1 q.1) k.0 q.2
  size_fine (s.Array' p (more_of-Shape element end_of-Shape)) [] c k e = constant_fine _ c e
  size_fine s.Void sizes c k e = constant_fine _ c e
  size_fine (s.Int kind) sizes c k e = constant_fine _ c e
  size_fine (s.Pointer' p to) sizes c k e = constant_fine _ c e
  size_fine (s.Struct tag) sizes c k e = constant_fine _ c e
  size_fine (s.Function' q ps p r) sizes c k e = constant_fine _ c e

  -- ---- an address

  abbrev SumFine : Option Plain → Type 0
  SumFine None = Unit {0}
  SumFine (Some t) = Fine t

  step_fine : (t after : SizedType) (step : PathStep) (c : Plain) → AreFine after.sizes → AreFine (step_terms step) → step_term defs.structs t after step ≡ Ok c → Fine c
  step_fine t after (FieldStep x) c k i e = constant_fine _ c e
  step_fine t after (Subscript n) c k i e =
      let q = on_ok_is (size_term defs.structs after.shape after.sizes) (λ bytes. times bytes n) c e in
      times_fine q.0 n c (size_fine after.shape after.sizes q.0 k q.1) i.0 q.2

  more_fine : (sum : Option Plain) (n c : Plain) → SumFine sum → Fine n → with_term sum n ≡ Ok c → Fine c
  more_fine None n c k i e = subst Fine (same_Ok {A = Plain} n c e) i
  more_fine (Some t) n c k i e = plus_fine t n c k i e

  front : (xs ys : List Plain) → AreFine (xs ++ ys) → AreFine xs × AreFine ys
  front [] ys k = (tt, k)
  front (x ∷ xs) ys k = let p = front xs ys k.1 in ((k.0, p.0), p.1)

  sum_fine : (path : List PathStep) (t : SizedType) (sum : Option Plain) (c : Plain) → AreFine t.sizes → AreFine (flat_map step_terms path) → SumFine sum → path_sum defs.structs t path sum ≡ Ok c → Fine c
  sum_fine [] t None c k i j e = constant_fine (pos 0) c e
  sum_fine [] t (Some u) c k i j e = subst Fine (same_Ok {A = Plain} u c e) j
  sum_fine (step ∷ path) t sum c k i j e =
      let both = front (step_terms step) (flat_map step_terms path) i in
      by both.0 (λ after more l m q. sum_fine path after (Some more) c l both.1 m q) (type_after defs.structs t step) refl e
    where
      by : AreFine (step_terms step) → ((after : SizedType) (more : Plain) → AreFine after.sizes → Fine more → path_sum defs.structs after path (Some more) ≡ Ok c → Fine c) → (o : Option SizedType) → type_after defs.structs t step ≡ o →
          on_type o (λ after. on_ok (step_sum defs.structs t after step sum) (λ more. path_sum defs.structs after path (Some more))) ≡ Ok c → Fine c
      by here next None f g = absurd cc
      by here next (Some after) f g =
          let l = after_fine t after step k f in
          let p = on_ok_is (step_sum defs.structs t after step sum) (λ more. path_sum defs.structs after path (Some more)) c g in
          let q = on_ok_is (step_term defs.structs t after step) (with_term sum) p.0 p.1 in
          next after p.0 l (more_fine sum q.0 p.0 j (step_fine t after step q.0 l here q.1) q.2) p.2

  moved_fine : (root n c : Plain) → Fine root → Fine n → moved root n ≡ Ok c → Fine c
  moved_fine root n c k i e = by (is_zero n) e
    where
      by : (b : Bool) → (if b then Ok root else written (two PtrAdd root n)) ≡ Ok c → Fine c
      by true f = subst Fine (same_Ok {A = Plain} root c f) k
      by false f = written_fine (two PtrAdd root n) c (two_fine PtrAdd root n k i) f

  address_fine : (t : SizedType) (path : List PathStep) (root c : Plain) → AreFine t.sizes → AreFine (flat_map step_terms path) → Fine root → address defs.structs t path root ≡ Ok c → Fine c
  address_fine t path root c k i j e = by (type_at defs.structs t path) e
    where
      by : (o : Option SizedType) → on_type o (λ nested. on_ok (path_sum defs.structs t path None) (moved root)) ≡ Ok c → Fine c
      by None f = absurd cc
      by (Some nested) f =
          let q = on_ok_is (path_sum defs.structs t path None) (moved root) c f in
          moved_fine root q.0 c j (sum_fine path t None q.0 k i tt q.1) q.2

  -- ---- a default

  default_fine : (t : SizedType) (c : Plain) → AreFine t.sizes → default_of defs.structs t ≡ Ok c → Fine c
  default_fine t c k e = by (value_sort defs.structs t.shape) refl e
    where
      term : (q : Sort) (b : Bool) → value_sort defs.structs t.shape ≡ Some q → Fine (if b then At (h.Operator Vundef) Done else At (h.Default t.shape q) (plains t.sizes))
      term q true f = ((tt, tt), (tt, tt))
      term q false f = let p = list_fine t.sizes k in ((f, p.0), (tt, p.1))

      by : (o : Option Sort) → value_sort defs.structs t.shape ≡ o → default_with o t ≡ Ok c → Fine c
      by None f g = absurd cc
      by (Some q) f g = written_fine (default_term t q) c (term q (is_scalar t.shape) f) g

  -- ---- what stands at a place

  numbers_fit : (ts : List Plain) → All IsNumber ts → AreFine ts → AllByRecursion (TermFits defs scope Z) ts
  numbers_fit [] a k = tt
  numbers_fit (t ∷ ts) a k =
      (record { fits = record { sorted = All-head IsNumber t ts a; allowed = k.0.0 }; known = k.0.1 }, numbers_fit ts (All-tail IsNumber t ts a) k.1)

  pub nested_at : (r : Region) (u : SizedType) → RegionFits defs scope r → type_at defs.structs r.ty r.path ≡ Some u → IsNested defs.structs u
  nested_at r u f e = let place = is_place defs scope r f in types_have_sorts defs.structs r.ty u r.path place.sort place.sizes place.path e place.has

  -- the type at its path
  pub type_formed : (r : Region) (u : SizedType) → RegionFits defs scope r → type_at defs.structs r.ty r.path ≡ Some u → TypeFits defs scope u
  type_formed r u f e =
      let n = nested_at r u f e in
      record {
        sizes = record { count = n.sizes.count; sizes = numbers_fit u.sizes n.sizes.numbers (path_fine r.path r.ty u (sizes_fine r.ty.sizes f.type.sizes.sizes) e) };
        sort = subst IsSome (sym n.has) refl;
      }

  -- the default of that type
  pub default_formed : (r : Region) (u : SizedType) (c : Plain) (f : RegionFits defs scope r) (e : type_at defs.structs r.ty r.path ≡ Some u) → default_of defs.structs u ≡ Ok c → TermFits defs scope (nested_at r u f e).sort c
  default_formed r u c f e d =
      let n = nested_at r u f e in
      let k = default_fine u c (path_fine r.path r.ty u (sizes_fine r.ty.sizes f.type.sizes.sizes) e) d in
      record { fits = record { sorted = answered n.sort (default_of defs.structs u) c (default_made defs.structs u n.sort n.sizes n.has) d; allowed = k.0 }; known = k.1 }

  -- its address
  pub address_formed : (r : Region) (u : SizedType) (c : Plain) → RegionFits defs scope r → type_at defs.structs r.ty r.path ≡ Some u → address defs.structs r.ty r.path r.root ≡ Ok c → TermFits defs scope Val c
  address_formed r u c f e d =
      let place = is_place defs scope r f in
      let k = address_fine r.ty r.path r.root c (sizes_fine r.ty.sizes f.type.sizes.sizes) (steps_fine r.path f.steps) (term_fine Val r.root f.root) d in
      record { fits = record { sorted = answered Val (address defs.structs r.ty r.path r.root) c (addresses_are_values defs.structs r.ty u r.path r.root place.sizes place.path e f.root.fits.sorted) d; allowed = k.0 }; known = k.1 }
