-- `split_array`.
use Rattle.std.proofs.Common.{◌≡◌, ℕ, ◌+◌, ◌-◌, ◌*◌, ◌≤◌, true, ℤ, pos, negsuc, ◌-ℤ◌, List, [], ◌∷◌, take, drop, Result, Ok, Err, All, refl, sym, ap, subst, arith, leb-true}
use Rattle.std.specs.Prelude.{int_le}
use Rattle.std.specs.List.{AllByRecursion}
use Rattle.std.proofs.lemmas.Int.{ints}
use Rattle.std.proofs.lemmas.List.{take_all}
use Rattle.std.proofs.lemmas.List.Elements.{All-cons, All-nil}
use Rattle.floyd_text.specs.declared.refusal.No.{No}
use Rattle.floyd_ctypes.specs.Structs.{Structs}
use Rattle.floyd_clight_heap.specs.Heaplet.{Heaplet}
use Rattle.floyd_clight_heap.proofs.Sums.{right_empty}
use Rattle.floyd_tree_sorts.specs.declared.operators.Operator.TheVariants.{Sub, Sublist}
use Rattle.floyd_tree_sorts.specs.declared.sorts.Sort.{Z}
use Rattle.floyd_tree.specs.declared.paths.PathStep.TheVariants.{Subscript}
use Rattle.floyd_tree.specs.Formulas.{PlainFormula}
use Rattle.floyd_tree.specs.Plain.{Plain}
use Rattle.floyd_tree_values.specs.BuiltIns.{Env}
use Rattle.floyd_tree_values.specs.Data.{Datum, Number, items_in, seq}
use Rattle.floyd_tree_values.specs.Lists.{sublist}
use Rattle.floyd_tree_values.specs.Means.{Means}
use Rattle.floyd_tree_values.specs.Rules.{Scope}
use Rattle.floyd_truth.specs.Truth.{AllTrue}
use Rattle.floyd_assert_cells.specs.Cells.{Cells}
use Rattle.floyd_assert_cells.specs.Laws.{array_of as array_type}
use Rattle.floyd_assert_cells.specs.Types.{Sized}
use Rattle.floyd_assert_cells.proofs.ObjectLaws.{arrays_cut}
use Rattle.floyd_assert_trees.specs.declared.items.Defs.{Defs}
use Rattle.floyd_assert_trees.specs.declared.sep.Sep.{Sep}
use Rattle.floyd_assert_trees.specs.declared.spec.SpecTable.{SpecTable}
use Rattle.floyd_assert_trees.specs.Meanings.{value_defs}
use Rattle.floyd_assert_meaning.specs.Parts.{PartHolds, PartsHold}
use Rattle.floyd_assert_meaning.specs.Parts as part
use Rattle.floyd_assert_meaning.specs.Settings.{Setting}
use Rattle.floyd_assert_meaning.proofs.Inversions.{object_of}
use Rattle.floyd_fieldpath.specs.Addresses.{address}
use Rattle.floyd_fieldpath.specs.Nested.{literal}
use Rattle.floyd_fieldpath.specs.Updates.{three}
use Rattle.floyd_fieldpath_laws.proofs.Meanings.{literal_means, on_ok_is, three_mean, written_means}
use Rattle.floyd_folding.specs.Folding.{folded}
use Rattle.floyd_goal_formulas.specs.Fits.{Fits}
use Rattle.floyd_goal_trees.specs.Contexts.{context_of, scope_of}
use Rattle.floyd_goal_trees.specs.declared.args.Args.{Args}
use Rattle.floyd_goal_trees.specs.declared.context.Context.{Context}
use Rattle.floyd_goal_trees.specs.declared.goal.Goal.{Goal}
use Rattle.floyd_goal_forms.specs.Assertions.{PartFits, PredicatesOf}
use Rattle.floyd_goal_forms.specs.Goals.{IsWellFormed}
use Rattle.floyd_goal_forms.specs.Terms.{TermFits}
use Rattle.floyd_goal_meaning.specs.GoalHolds.{HoldsFor}
use Rattle.floyd_goal_meaning.specs.Programs.{setting}
use Rattle.floyd_goal_parts.specs.declared.placing.Plan.{Plan}
use Rattle.floyd_goal_parts.specs.Sources.{part_number}
use Rattle.floyd_goal_parts.specs.Writing.{at_most}
use Rattle.floyd_goal_plans.specs.Plans.{planned}
use Rattle.floyd_part_laws.specs.Laws.{IsPlace}
use Rattle.floyd_arrays.specs.declared.arrays.ArrayPart.{ArrayPart}
use Rattle.floyd_arrays.specs.Arrays.{array_of, behind, piece, piece_at, slice}
use Rattle.floyd_arrays.specs.SplitArray as split
use Rattle.floyd_entail_soundness.proofs.InPlace.{is_place}
use Rattle.floyd_entail_soundness.proofs.Placing.{same_Ok}
use Rattle.floyd_entail_soundness.proofs.UnderSides.{KeepsUnder, under_sound}
use Rattle.floyd_entail_soundness.proofs.Written.{all_written_is, written_sorted}
use Rattle.floyd_shares_soundness.specs.Numbers.{FirstIsNumber}
use Rattle.floyd_shares_soundness.proofs.Numbers.{at_most_fits, bound_of, bound_says, difference_means}
use Rattle.floyd_arrays_soundness.specs.Pieces.{ArrayFits}
use Rattle.floyd_arrays_soundness.proofs.Arrays.{array_is, count_fits, object_fits, piece_part}
use Rattle.floyd_arrays_soundness.proofs.Elements.{element_means, elements_of, piece_holds, whole_of}
use Rattle.floyd_arrays_soundness.proofs.Pieces.{pieces_stand}

-- ---- the plan

record Planned (structs : Structs) (m : Plain) (p : Sep) (plan : Plan) : Type 0 where
  pub a : ArrayPart
  pub a_is : array_of p ≡ Ok a
  pub first : Plain
  pub first_is : slice (literal (pos 0)) m a.value ≡ Ok first
  pub second : Plain
  pub second_is : slice m a.count a.value ≡ Ok second
  pub n : Plain
  pub n_is : folded Sub a.count m ≡ Ok n
  pub root : Plain
  pub root_is : behind structs a m ≡ Ok root
  pub sides : at_most (literal (pos 0)) m ∷ at_most m a.count ∷ [] ≡ plan.sides
  pub new : piece a m a.region.root first ∷ piece a n root second ∷ [] ≡ plan.new

both_planned : (fs : Result (List PlainFormula) No) (ps : Result (List Sep) No) (plan : Plan) → planned fs ps ≡ Ok plan → (fs ≡ Ok plan.sides) × (ps ≡ Ok plan.new)
both_planned (Err why) ps plan e = absurd cc
both_planned (Ok fs) (Err why) plan e = absurd cc
both_planned (Ok fs) (Ok ps) plan e =
    let same = same_Ok {A = Plan} (record { sides = fs; new = ps }) plan e in
    (ap (λ (x : Plan). Ok x.sides) same, ap (λ (x : Plan). Ok x.new) same)

same_two : (p q x y : Sep) (new : List Sep) → p ≡ x → q ≡ y → x ∷ y ∷ [] ≡ new → p ∷ q ∷ [] ≡ new
same_two p q x y new e f g = subst (λ a. a ∷ q ∷ [] ≡ new) (sym e) (subst (λ b. x ∷ b ∷ [] ≡ new) (sym f) g)

plan_of : (structs : Structs) (m : Plain) (p : Sep) (plan : Plan) → split.split_part structs p m ≡ Ok plan → Planned structs m p plan
plan_of structs m p plan made =
    let zero = literal (pos 0) in
    let a = on_ok_is (array_of p) (split.split_at structs m) plan made in
    let b = both_planned (split.within zero m a.0) (split.two_parts (split.front zero m a.0) (split.back structs m a.0)) plan a.2 in
    let x = on_ok_is (split.front zero m a.0) (λ x. split.two_parts (Ok x) (split.back structs m a.0)) plan.new b.1 in
    let y = on_ok_is (split.back structs m a.0) (λ y. Ok (x.0 ∷ y ∷ [])) plan.new x.2 in
    let first = on_ok_is (slice zero m a.0.value) (piece_at a.0 m a.0.region.root) x.0 x.1 in
    let n = on_ok_is (folded Sub a.0.count m) (split.back_of structs m a.0) y.0 y.1 in
    let root = on_ok_is (behind structs a.0 m) (split.back_at m a.0 n.0) y.0 n.2 in
    let second = on_ok_is (slice m a.0.count a.0.value) (piece_at a.0 n.0 root.0) y.0 root.2 in
    record {
      a = a.0;
      a_is = a.1;
      first = first.0;
      first_is = first.1;
      second = second.0;
      second_is = second.1;
      n = n.0;
      n_is = n.1;
      root = root.0;
      root_is = root.1;
      sides = all_written_is (at_most zero m ∷ at_most m a.0.count ∷ []) plan.sides b.0;
      new = same_two (piece a.0 m a.0.region.root first.0) (piece a.0 n.0 root.0 second.0) x.0 y.0 plan.new (same_Ok {A = Sep} (piece a.0 m a.0.region.root first.0) x.0 first.2) (same_Ok {A = Sep} (piece a.0 n.0 root.0 second.0) y.0 second.2)
          (same_Ok {A = List Sep} (x.0 ∷ y.0 ∷ []) plan.new y.2);
    }

-- ---- numbers

natural : (z : ℤ) → int_le (pos 0) z ≡ true → (m : ℕ) × (z ≡ pos m)
natural (pos m) e = (m, refl)
natural (negsuc m) e = absurd cc

rest_is : (c m n : ℕ) → c ≡ m + n → pos c -ℤ pos m ≡ pos n
rest_is c m n e = subst (λ x. pos x -ℤ pos m ≡ pos n) (sym e) (omega (arith, ints))

-- ---- the pieces

module _ (defs : Defs) (scope : Scope) (m : Plain) (number : TermFits defs scope Z m) where
  sides_fit : (p : Sep) (plan : Plan) → PartFits defs scope (PredicatesOf defs scope) p → Planned defs.structs m p plan → All (Fits (value_defs defs) scope) plan.sides
  sides_fit p plan f k =
      let count = count_fits defs scope (PredicatesOf defs scope) p k.a (array_is p k.a k.a_is) f in
      subst (All (Fits (value_defs defs) scope)) k.sides
      (All-cons (Fits (value_defs defs) scope) (at_most (literal (pos 0)) m) (at_most m k.a.count ∷ []) (at_most_fits (value_defs defs) scope (literal (pos 0)) m refl number.fits.sorted (tt, tt) number.fits.allowed)
      (All-cons (Fits (value_defs defs) scope) (at_most m k.a.count) [] (at_most_fits (value_defs defs) scope m k.a.count number.fits.sorted count.fits.sorted number.fits.allowed count.fits.allowed) (All-nil (Fits (value_defs defs) scope))))

  module _ (S : Setting) (same : S.defs.structs ≡ defs.structs) (env : Env) where
    slice_means : (low high list piece : Plain) (x y : ℤ) (d : Datum) → slice low high list ≡ Ok piece → Means S.defs env low (Number x) → Means S.defs env high (Number y) → Means S.defs env list d → Means S.defs env piece (seq (sublist x y (items_in d)))
    slice_means low high list piece x y d e a b c =
        let s = written_sorted (three Sublist low high list) piece e in
        written_means S.defs env (three Sublist low high list) piece (seq (sublist x y (items_in d))) e (three_mean S.defs env Sublist s.0 low high list (Number x) (Number y) d s.1 a b c)

    split_holds : (p : Sep) (plan : Plan) (h : Heaplet) → PartFits defs scope (PredicatesOf defs scope) p → Planned defs.structs m p plan → AllTrue S.defs S.has_spec env plan.sides → PartHolds S env p h → PartsHold S env plan.new h
    split_holds p plan h f k sides holds =
        let structs = S.defs.structs in
        let a = k.a in
        let r = a.region in
        let is = array_is p a k.a_is in
        let fits = object_fits defs scope (PredicatesOf defs scope) p a is f in
        let count = count_fits defs scope (PredicatesOf defs scope) p a is f in
        let w = whole_of S env r a.value h is.whole (object_of (subst (λ q. PartHolds S env q h) is.part_is holds)) in
        let d = w.0 in
        let x = elements_of S env r a.count is.type d h w.2 in
        let t : AllTrue S.defs S.has_spec env (at_most (literal (pos 0)) m ∷ at_most m a.count ∷ []) = subst (AllTrue S.defs S.has_spec env) (sym k.sides) sides in
        let low = bound_of S.defs env S.has_spec (literal (pos 0)) m t.0 in
        let some = natural low.1 (bound_says S.defs env S.has_spec (literal (pos 0)) m (pos 0) low.1 (literal_means S.defs env (pos 0)) low.3 t.0) in
        let front : ℕ = some.0 in
        let means : Means S.defs env m (Number (pos front)) = subst (λ z. Means S.defs env m (Number z)) some.1 low.3 in
        let within : front ≤ x.count = leb-true front x.count (bound_says S.defs env S.has_spec m a.count (pos front) (pos x.count) means x.of_count t.1.0) in
        let back : ℕ = x.count - front in
        let all : x.count ≡ front + back = omega (arith, within) in
        let T : Sized = record { shape = is.type.element; sizes = x.sizes } in
        let cut = arrays_cut structs x.share T front back x.bytes d x.block x.offset h x.sized (subst (λ c. Cells structs x.share (array_type (pos c) T) d x.block x.offset h) all x.cells) in
        let stand = pieces_stand structs T front back x.bytes x.block x.offset x.sized (subst (λ c. ArrayFits structs T c x.block x.offset) all x.fits) in
        let place : IsPlace structs r = subst (λ s. IsPlace s r) (sym same) (is_place defs scope r fits.region) in
        let address_is : address structs r.ty (Subscript m ∷ []) r.root ≡ Ok k.root = subst (λ s. address s r.ty (Subscript m ∷ []) r.root ≡ Ok k.root) (sym same) k.root_is in
        let of_n : Means S.defs env k.n (Number (pos back)) =
        subst (λ z. Means S.defs env k.n (Number z)) (rest_is x.count front back all) (difference_means S.defs env a.count m k.n (pos x.count) (pos front) count.fits.sorted number.fits.sorted x.of_count means k.n_is) in
        let of_root = element_means S env r a.count is.type d h x m k.root front place number.fits.sorted within means address_is in
        let of_first : Means S.defs env k.first (seq (take front (items_in d))) = slice_means (literal (pos 0)) m a.value k.first (pos 0) (pos front) d k.first_is (literal_means S.defs env (pos 0)) means w.1 in
        let whole : take x.count (items_in d) ≡ items_in d = take_all x.count (items_in d) (omega (arith, x.items)) in
        let of_second : Means S.defs env k.second (seq (drop front (items_in d))) =
        subst (λ ds. Means S.defs env k.second (seq (drop front ds))) whole (slice_means m a.count a.value k.second (pos front) (pos x.count) d k.second_is means x.of_count w.1) in
        let one = piece_part S env a is.type m r.root k.first cut.0 (piece_holds S env r a.count is.type d h x m r.root k.first front x.offset (seq (take front (items_in d))) cut.0 means x.of_root of_first stand.0 cut.3) in
        let two = piece_part S env a is.type k.n k.root k.second cut.1
        (piece_holds S env r a.count is.type d h x k.n k.root k.second back (x.offset + x.bytes * front) (seq (drop front (items_in d))) cut.1 of_n of_root of_second stand.1 cut.4) in
        subst (λ ps. PartsHold S env ps h) k.new (part.more cut.2 one (part.more (right_empty cut.1) two (part.none refl)))

split_keeps : (defs : Defs) (specs : SpecTable) (context : Context) (terms : List Plain) → FirstIsNumber defs (scope_of context) terms → KeepsUnder defs specs context (split.split defs.structs terms)
split_keeps defs specs context [] number = record {
  fit = λ p plan f made. absurd cc;
  keeps = λ L more place has p plan f made env h sides holds. absurd cc;
}
split_keeps defs specs context (m ∷ terms) number = record {
  fit = λ p plan f made. sides_fit defs (scope_of context) m number p plan f (plan_of defs.structs m p plan made);
  keeps = λ L more place has p plan f made env h sides holds. split_holds defs (scope_of context) m number (setting L more place) has.structs env p plan h f (plan_of defs.structs m p plan made) sides holds;
}

pub split_sound : (defs : Defs) (specs : SpecTable) (n : ℕ) (goal : Goal) (args : Args) (goals : List Goal) → IsWellFormed defs specs goal → FirstIsNumber defs (scope_of (context_of goal)) args.terms → split.Row defs.structs goal args (Ok goals) → AllByRecursion (HoldsFor defs specs n) goals → HoldsFor defs specs n goal
split_sound defs specs n goal args goals formed number row h = under_sound defs specs n goal (part_number args.target) (split.split defs.structs args.terms) goals formed (split_keeps defs specs (context_of goal) args.terms number) row h
