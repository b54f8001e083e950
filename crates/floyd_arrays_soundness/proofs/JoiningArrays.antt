-- `join_array`.
use Rattle.std.proofs.Common.{◌≡◌, inl, inr, ℕ, ◌+◌, ◌*◌, ℤ, pos, ◌+ℤ◌, ◌-ℤ◌, List, [], ◌∷◌, ◌++◌, map, Option, Some, None, Ok, refl, sym, ap, subst, ◌∙◌, arith}
use Rattle.std.specs.List.{AllByRecursion}
use Rattle.std.proofs.lemmas.Int.{ints}
use Rattle.std.proofs.lemmas.Option.{same_Some}
use Rattle.floyd_int.specs.declared.kinds.Value.TheVariants.{Vptr}
use Rattle.floyd_ctypes.specs.Structs.{Structs}
use Rattle.floyd_clight_heap.specs.Heaplet.{Heaplet}
use Rattle.floyd_tree_sorts.specs.declared.heads.Head.TheVariants as h
use Rattle.floyd_tree_sorts.specs.declared.operators.Operator.TheVariants.{Append, Sub}
use Rattle.floyd_tree_sorts.specs.declared.shape.Shape.{Shape}
use Rattle.floyd_tree_sorts.specs.declared.sorts.Sort.{Z}
use Rattle.floyd_tree_sorts.specs.Operators.{row}
use Rattle.floyd_tree_sorts.proofs.RowLemmas.{row_taken}
use Rattle.floyd_tree.specs.declared.paths.PathStep.TheVariants.{Subscript}
use Rattle.floyd_tree.specs.Plain.{Plain, At, Done, More}
use Rattle.floyd_tree.specs.WellSorted.{sort_of}
use Rattle.floyd_tree_values.specs.BuiltIns.{Env, applied}
use Rattle.floyd_tree_values.specs.Data.{Datum, HasSort, Number, Val, Seq, Tree, Pair, items_in, number_in, seq}
use Rattle.floyd_tree_values.specs.Means.{AllMean, Means}
use Rattle.floyd_tree_values.specs.Rules.{AllAllowed, CallsOf, EachAllowed, Fits, Scope, Suits}
use Rattle.floyd_tree_values.proofs.AllFuns.{a_value}
use Rattle.floyd_tree_values.proofs.OneValue.{applies, no_data, one_list, one_value, split}
use Rattle.floyd_assert_cells.specs.Cells.{Cells}
use Rattle.floyd_assert_cells.specs.Laws.{array_of as array_type}
use Rattle.floyd_assert_cells.specs.Types.{Sized}
use Rattle.floyd_assert_cells.proofs.ObjectLaws.{arrays_joined}
use Rattle.floyd_assert_trees.specs.declared.items.Defs.{Defs}
use Rattle.floyd_assert_trees.specs.declared.sep.Sep.{Sep}
use Rattle.floyd_assert_trees.specs.declared.spec.SpecTable.{SpecTable}
use Rattle.floyd_assert_trees.specs.Meanings.{value_defs}
use Rattle.floyd_assert_meaning.specs.Parts.{PartHolds}
use Rattle.floyd_assert_meaning.specs.Settings.{Setting}
use Rattle.floyd_assert_meaning.proofs.Inversions.{object_of}
use Rattle.floyd_fieldpath.specs.Addresses.{address}
use Rattle.floyd_fieldpath.specs.Projections.{kid_under}
use Rattle.floyd_fieldpath.specs.Sums.{plus, two}
use Rattle.floyd_fieldpath.specs.Written.{written}
use Rattle.floyd_fieldpath_laws.proofs.Meanings.{on_ok_is, plus_means, two_mean, written_means}
use Rattle.floyd_fieldpath_laws.proofs.TermSorts.{taken, two_kids}
use Rattle.floyd_goal_trees.specs.Contexts.{context_of, scope_of}
use Rattle.floyd_goal_trees.specs.declared.args.Args.{Args}
use Rattle.floyd_goal_trees.specs.declared.goal.Goal.{Goal}
use Rattle.floyd_goal_forms.specs.Assertions.{PartFits, PredicatesOf}
use Rattle.floyd_goal_forms.specs.Goals.{IsWellFormed}
use Rattle.floyd_goal_forms.specs.Terms.{TermFits}
use Rattle.floyd_goal_laws.proofs.Growing.{term_fits_program}
use Rattle.floyd_goal_meaning.specs.declared.linked.Linked.{Linked}
use Rattle.floyd_goal_meaning.specs.GoalHolds.{HoldsFor}
use Rattle.floyd_goal_meaning.specs.Links.{Has}
use Rattle.floyd_goal_meaning.specs.Programs.{Further, Places, setting}
use Rattle.floyd_goal_plans.specs.Joining.{IsJoined, pair_of, two_of}
use Rattle.floyd_part_laws.specs.Laws.{IsPlace}
use Rattle.floyd_arrays.specs.declared.arrays.ArrayPart.{ArrayPart}
use Rattle.floyd_arrays.specs.Arrays.{array_of, behind, piece}
use Rattle.floyd_arrays.specs.JoinArray as join
use Rattle.floyd_entail_soundness.proofs.InPlace.{is_place}
use Rattle.floyd_entail_soundness.proofs.Placing.{of_number, same_Ok}
use Rattle.floyd_entail_soundness.proofs.Sources.{parts_fit}
use Rattle.floyd_entail_soundness.proofs.Written.{written_sorted}
use Rattle.floyd_shares_soundness.proofs.Joining.{OneOfTwo, join_plain, two_found}
use Rattle.floyd_shares_soundness.proofs.Sharing.{after_is, then_is}
use Rattle.floyd_arrays_soundness.specs.Pieces.{ArrayFits}
use Rattle.floyd_arrays_soundness.proofs.Arrays.{array_is, count_fits, object_fits, piece_object, piece_part, piece_region}
use Rattle.floyd_arrays_soundness.proofs.Elements.{IsArray, element_means, elements_of, piece_holds, whole_of}
use Rattle.floyd_arrays_soundness.proofs.Pieces.{wholes_stand}

-- ---- what both become

record Joined (structs : Structs) (p q : Sep) (new : List Sep) : Type 0 where
  pub a : ArrayPart
  pub a_is : array_of p ≡ Ok a
  pub b : ArrayPart
  pub b_is : array_of q ≡ Ok b
  pub root : Plain
  pub root_is : behind structs a a.count ≡ Ok root
  pub second_is : piece a b.count root b.value ≡ q
  pub n : Plain
  pub sum : join.IsSum a.count b.count (Ok n)
  pub value : Plain
  pub value_is : written (two Append a.value b.value) ≡ Ok value
  pub new_is : piece a n a.region.root value ∷ [] ≡ new

joined_new : (structs : Structs) (p q : Sep) (new : List Sep) → join.IsNew structs p q (Ok new) → Joined structs p q new
joined_new structs p q new h =
    let x = then_is (array_of p) (join.WithSecond structs q) new h in
    let y = then_is (array_of q) (join.Joins structs q x.0) new x.2 in
    by x.0 x.1 y.0 y.1 y.2
  where
    by : (a : ArrayPart) → array_of p ≡ Ok a → (b : ArrayPart) → array_of q ≡ Ok b → join.Joins structs q a b (Ok new) → Joined structs p q new
    by a e b f (inr k) =
        let wrong = k.1 in
        absurd cc
    by a e b f (inl k) =
        let u = after_is (join.IsSum a.count b.count) (join.IsBoth a b) new k.1 in
        let v = on_ok_is (written (two Append a.value b.value)) (join.both_at a u.0) new (sym u.2) in
        record {
          a = a;
          a_is = e;
          b = b;
          b_is = f;
          root = k.0.0;
          root_is = k.0.1;
          second_is = k.0.2;
          n = u.0;
          sum = u.1;
          value = v.0;
          value_is = v.1;
          new_is = same_Ok {A = List Sep} (piece a u.0 a.region.root v.0 ∷ []) new v.2;
        }

-- ---- numbers

same_number : (x y : ℤ) → Number x ≡ Number y → x ≡ y
same_number x y e = cc

same_numbers : (xs ys : List ℤ) → map Number xs ≡ map Number ys → xs ≡ ys
same_numbers [] [] e = refl
same_numbers [] (y ∷ ys) e = absurd cc
same_numbers (x ∷ xs) [] e = absurd cc
same_numbers (x ∷ xs) (y ∷ ys) e =
    let first : x ≡ y = cc in
    let rest : map Number xs ≡ map Number ys = cc in
    ap (λ z. z ∷ xs) first ∙ ap (λ zs. y ∷ zs) (same_numbers xs ys rest)

is_number : (d : Datum) → HasSort Z d → d ≡ Number (number_in d)
is_number (Number z) h = refl
is_number (Val v) h = absurd h
is_number (Seq items) h = absurd h
is_number (Tree t) h = absurd h
is_number (Pair a b) h = absurd h

sum_is : (x z : ℕ) → pos x +ℤ pos z ≡ pos (x + z)
sum_is x z = omega (arith, ints)

whole_is : (i : ℤ) (x z : ℕ) → pos z ≡ i -ℤ pos x → i ≡ pos (x + z)
whole_is i x z e = omega (arith, ints, e)

-- ---- the number of the elements of both

module _ (L : Linked) (further : List Further) (place : Places) (defs : Defs) (specs : SpecTable) (has : Has L defs specs) (scope : Scope) (env : Env) (suits : Suits scope env) where
  abbrev S : Setting
  S = setting L further place

  added : (m c n : Plain) (x z : ℕ) → TermFits defs scope Z m → TermFits defs scope Z c → Means S.defs env m (Number (pos x)) → Means S.defs env c (Number (pos z)) → plus m c ≡ Ok n → Means S.defs env n (Number (pos (x + z)))
  added m c n x z f g a b e = subst (λ i. Means S.defs env n (Number i)) (sum_is x z) (plus_means S.defs env m c n (pos x) (pos z) f.fits.sorted g.fits.sorted a b e)

  -- where the second number is the difference of the whole and the first
  whole_means : (c whole less m : Plain) (x z : ℕ) → TermFits defs scope Z c → kid_under join.is_difference 0 c ≡ Some whole → kid_under join.is_difference 1 c ≡ Some less → less ≡ m → Means S.defs env m (Number (pos x)) → Means S.defs env c (Number (pos z)) →
      Means S.defs env whole (Number (pos (x + z)))
  whole_means (At (h.Operator Sub) kids) whole less m x z f e g same means mean =
      let t = taken Sub kids Z f.fits.sorted in
      let r = row_taken (row Sub) t.0 Z t.2 in
      let k = two_kids kids Z Z (t.1 ∙ ap Some (sym r.2)) in
      let first : k.first ≡ whole = same_Some {A = Plain} k.first whole (ap (λ ks. kid_under join.is_difference 0 (At (h.Operator Sub) ks)) (sym k.is) ∙ e) in
      let second : k.second ≡ less = same_Some {A = Plain} k.second less (ap (λ ks. kid_under join.is_difference 1 (At (h.Operator Sub) ks)) (sym k.is) ∙ g) in
      let allowed : AllAllowed defs.structs scope (CallsOf (value_defs defs).funs) (More k.first (More k.second Done)) = subst (AllAllowed defs.structs scope (CallsOf (value_defs defs).funs)) k.is f.fits.allowed.1 in
      let fit : Fits defs.structs scope (CallsOf (value_defs defs).funs) Z whole = record {
        sorted = ap sort_of (sym first) ∙ k.first_sort;
        allowed = subst (EachAllowed defs.structs scope (CallsOf (value_defs defs).funs)) first allowed.0;
      } in
      let v = a_value S.defs scope env Z whole has.rules suits (term_fits_program L defs specs has scope Z whole fit) in
      let p = applies refl mean in
      let kids_mean : AllMean S.defs env (More k.first (More k.second Done)) p.data' = subst (λ ks. AllMean S.defs env ks p.data') k.is p.mean in
      let a = split kids_mean in
      let b = split a.rest in
      let nothing = no_data b.rest in
      let of_first : a.datum ≡ v.0 = one_value S.defs (subst (λ u. Means S.defs env u a.datum) first a.first) v.0 v.1 in
      let of_second : b.datum ≡ Number (pos x) = one_value S.defs (subst (λ u. Means S.defs env u b.datum) (second ∙ same) b.first) (Number (pos x)) means in
      let data_are : p.data' ≡ v.0 ∷ Number (pos x) ∷ [] =
      a.is ∙ ap (λ ds. a.datum ∷ ds) (b.is ∙ ap (λ ds. b.datum ∷ ds) nothing) ∙ ap (λ u. u ∷ b.datum ∷ []) of_first ∙ ap (λ u. v.0 ∷ u ∷ []) of_second in
      let difference : Number (pos z) ≡ Number (number_in v.0 -ℤ pos x) = p.is ∙ ap (applied S.defs.structs env (h.Operator Sub) p.sort) data_are in
      let number : v.0 ≡ Number (pos (x + z)) = is_number v.0 v.2 ∙ ap Number (whole_is (number_in v.0) x z (same_number (pos z) (number_in v.0 -ℤ pos x) difference)) in
      subst (Means S.defs env whole) number v.1
  whole_means (At head kids) whole less m x z f e g same means mean = absurd cc

  sum_means : (m c n : Plain) (x z : ℕ) → TermFits defs scope Z m → TermFits defs scope Z c → Means S.defs env m (Number (pos x)) → Means S.defs env c (Number (pos z)) → join.IsSum m c (Ok n) → Means S.defs env n (Number (pos (x + z)))
  sum_means m c n x z f g a b sum = by (kid_under join.is_difference 0 c) (kid_under join.is_difference 1 c) refl refl sum
    where
      by : (o p : Option Plain) → kid_under join.is_difference 0 c ≡ o → kid_under join.is_difference 1 c ≡ p → join.OfSides m c o p (Ok n) → Means S.defs env n (Number (pos (x + z)))
      by (Some whole) (Some less) e i (inl k) = subst (λ u. Means S.defs env u (Number (pos (x + z)))) (sym (same_Ok {A = Plain} n whole k.1)) (whole_means c whole less m x z g e i k.0 a b)
      by (Some whole) (Some less) e i (inr k) = added m c n x z f g a b (sym k.1)
      by (Some whole) None e i k = added m c n x z f g a b (sym k)
      by None (Some less) e i k = added m c n x z f g a b (sym k)
      by None None e i k = added m c n x z f g a b (sym k)

-- ---- the array of both

-- elements with what is known to be the same
cells_there : (structs : Structs) (s r : ℤ) (shape : Shape) (ms ns : List ℤ) (c : ℕ) (d : Datum) (b k o p : ℕ) (h : Heaplet) → s ≡ r → ms ≡ ns → b ≡ k → o ≡ p → Cells structs s (array_type (pos c) (record { shape = shape; sizes = ms })) d b o h →
    Cells structs r (array_type (pos c) (record { shape = shape; sizes = ns })) d k p h
cells_there structs s r shape ms ns c d b k o p h e f g i cells =
    subst (λ x. Cells structs r (array_type (pos c) (record { shape = shape; sizes = ns })) d k x h) i
    (subst (λ x. Cells structs r (array_type (pos c) (record { shape = shape; sizes = ns })) d x o h) g
    (subst (λ xs. Cells structs r (array_type (pos c) (record { shape = shape; sizes = xs })) d b o h) f (subst (λ x. Cells structs x (array_type (pos c) (record { shape = shape; sizes = ms })) d b o h) e cells)))

fits_there : (structs : Structs) (shape : Shape) (ms ns : List ℤ) (c b k o p : ℕ) → ms ≡ ns → b ≡ k → o ≡ p → ArrayFits structs (record { shape = shape; sizes = ms }) c b o → ArrayFits structs (record { shape = shape; sizes = ns }) c k p
fits_there structs shape ms ns c b k o p f g i fits =
    subst (λ x. ArrayFits structs (record { shape = shape; sizes = ns }) c k x) i
    (subst (λ x. ArrayFits structs (record { shape = shape; sizes = ns }) c x o) g (subst (λ xs. ArrayFits structs (record { shape = shape; sizes = xs }) c b o) f fits))

same_block : (b k o p : ℕ) → Val (Vptr b o) ≡ Val (Vptr k p) → (b ≡ k) × (o ≡ p)
same_block b k o p e = (cc, cc)

module _ (defs : Defs) (specs : SpecTable) (scope : Scope) (p q : Sep) (f : PartFits defs scope (PredicatesOf defs scope) p) (g : PartFits defs scope (PredicatesOf defs scope) q) (new : List Sep) (k : Joined defs.structs p q new) where
  one_of_two : OneOfTwo defs specs scope [] p q (piece k.a k.n k.a.region.root k.value)
  one_of_two L further places has env suits t x y h j first second =
      let S = setting L further places in
      let structs = S.defs.structs in
      let a = k.a in
      let r = a.region in
      let is = array_is p a k.a_is in
      let fits = object_fits defs scope (PredicatesOf defs scope) p a is f in
      let count = count_fits defs scope (PredicatesOf defs scope) p a is f in
      let others = count_fits defs scope (PredicatesOf defs scope) q k.b (array_is q k.b k.b_is) g in
      let w = whole_of S env r a.value x is.whole (object_of (subst (λ s. PartHolds S env s x) is.part_is first)) in
      let e = elements_of S env r a.count is.type w.0 x w.2 in
      let there = piece_region a is.type k.b.count k.root in
      let type : IsArray there.ty k.b.count = record { element = is.type.element; rest = is.type.rest; shape_is = is.type.shape_is; sizes_are = refl } in
      let v = whole_of S env there k.b.value y refl (piece_object S env a is.type k.b.count k.root k.b.value y (subst (λ s. PartHolds S env s y) (sym k.second_is) second)) in
      let o = elements_of S env there k.b.count type v.0 y v.2 in
      let place : IsPlace structs r = subst (λ s. IsPlace s r) (sym has.structs) (is_place defs scope r fits.region) in
      let address_is : address structs r.ty (Subscript a.count ∷ []) r.root ≡ Ok k.root = subst (λ s. address s r.ty (Subscript a.count ∷ []) r.root ≡ Ok k.root) (sym has.structs) k.root_is in
      let of_root = element_means S env r a.count is.type w.0 x e a.count k.root e.count place count.fits.sorted (omega arith) e.of_count address_is in
      let at = same_block o.block e.block o.offset (e.offset + e.bytes * e.count) (one_value S.defs o.of_root (Val (Vptr e.block (e.offset + e.bytes * e.count))) of_root) in
      let share : o.share ≡ e.share = same_number o.share e.share (one_value S.defs o.of_share (Number e.share) e.of_share) in
      let sizes : o.sizes ≡ e.sizes = same_numbers o.sizes e.sizes (one_list S.defs o.of_sizes (map Number e.sizes) e.of_sizes) in
      let T : Sized = record { shape = is.type.element; sizes = e.sizes } in
      let behind_cells = cells_there structs o.share e.share is.type.element o.sizes e.sizes o.count v.0 o.block e.block o.offset (e.offset + e.bytes * e.count) y share sizes at.0 at.1 o.cells in
      let behind_fits = fits_there structs is.type.element o.sizes e.sizes o.count o.block e.block o.offset (e.offset + e.bytes * e.count) sizes at.0 at.1 o.fits in
      let cells = arrays_joined structs e.share T e.count o.count e.bytes w.0 v.0 e.block e.offset h e.sized (x, y, j, e.cells, behind_cells) in
      let stands = wholes_stand structs T e.count o.count e.bytes e.block e.offset e.sized e.fits behind_fits in
      let of_n = sum_means L further places defs specs has scope env suits a.count k.b.count k.n e.count o.count count others e.of_count o.of_count k.sum in
      let s = written_sorted (two Append a.value k.b.value) k.value k.value_is in
      let of_value : Means S.defs env k.value (seq (items_in w.0 ++ items_in v.0)) =
      written_means S.defs env (two Append a.value k.b.value) k.value (seq (items_in w.0 ++ items_in v.0)) k.value_is (two_mean S.defs env Append s.0 a.value k.b.value w.0 v.0 s.1 w.1 v.1) in
      piece_part S env a is.type k.n r.root k.value h
      (piece_holds S env r a.count is.type w.0 x e k.n r.root k.value (e.count + o.count) e.offset (seq (items_in w.0 ++ items_in v.0)) h of_n e.of_root of_value stands cells)

pub join_sound : (defs : Defs) (specs : SpecTable) (n : ℕ) (goal : Goal) (args : Args) (goals : List Goal) → IsWellFormed defs specs goal → join.Row defs.structs goal args (Ok goals) → AllByRecursion (HoldsFor defs specs n) goals → HoldsFor defs specs n goal
join_sound defs specs n goal args goals formed row h =
    let pair = pair_of args in
    let found = then_is (two_of goal pair) (join.OfTwo defs.structs goal pair) goals row in
    let source = found.0.0 in
    let p = found.0.1 in
    let q = found.0.2 in
    let made = after_is (join.IsNew defs.structs p q) (IsJoined goal pair source) goals found.2 in
    let k = joined_new defs.structs p q made.0 made.1 in
    let two = two_found goal pair source p q found.1 in
    let scope = scope_of (context_of goal) in
    let fits = parts_fit defs specs goal source two.source_is formed in
    let f = of_number (PartFits defs scope (PredicatesOf defs scope)) pair.first source.parts p two.first_is fits in
    let g = of_number (PartFits defs scope (PredicatesOf defs scope)) pair.second source.parts q two.second_is fits in
    join_plain defs specs n goal pair source p q (piece k.a k.n k.a.region.root k.value) goals two (one_of_two defs specs scope p q f g made.0 k)
    (subst (λ ps. IsJoined goal pair source ps (Ok goals)) (sym k.new_is) made.2) h
