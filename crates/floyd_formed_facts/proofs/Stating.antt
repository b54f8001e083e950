-- The goal with what a part says among the hypotheses is well formed.
use Rattle.std.proofs.Common.{◌≡◌, Bool, true, false, List, [], ◌∷◌, ◌++◌, map, Option, Some, None, Result, Ok, refl, sym, subst}
use Rattle.std.specs.Prelude.{if◌then◌else◌, is_some, pos, slice_get}
use Rattle.std.specs.List.{flat_map}
use Rattle.floyd_text.specs.declared.refusal.No.{No}
use Rattle.floyd_tree_sorts.specs.declared.connectives.FormulaHead.TheVariants.{AtMost, Compatible, Equal, IsPtr}
use Rattle.floyd_tree_sorts.specs.declared.operators.Operator.TheVariants.{Len}
use Rattle.floyd_tree_sorts.specs.declared.sorts.Sort.{Z, Val}
use Rattle.floyd_tree.specs.Formulas.{PlainFormula}
use Rattle.floyd_tree.specs.Plain.{Plain}
use Rattle.floyd_tree.specs.Types.{SizedType}
use Rattle.floyd_tree_values.specs.Rules.{Scope}
use Rattle.floyd_assert_changes.specs.Changed.{step_terms}
use Rattle.floyd_assert_trees.specs.declared.items.Defs.{Defs}
use Rattle.floyd_assert_trees.specs.declared.sep.Region.{Region}
use Rattle.floyd_assert_trees.specs.declared.sep.Sep.{Sep}
use Rattle.floyd_assert_trees.specs.declared.sep.Sep.TheVariants.{FieldAt, Padding, Valid, Anything, Predicate}
use Rattle.floyd_assert_trees.specs.declared.spec.SpecTable.{SpecTable}
use Rattle.floyd_fieldpath.specs.Nested.{literal, nested_type, type_at}
use Rattle.floyd_fieldpath.specs.Projections.{one}
use Rattle.floyd_fieldpath.specs.Sums.{literal_in}
use Rattle.floyd_fieldpath.specs.Written.{on_ok, written}
use Rattle.floyd_fieldpath_laws.proofs.Meanings.{on_ok_is, written_is}
use Rattle.floyd_goal.specs.Goals.{enriched, in_context}
use Rattle.floyd_goal_forms.specs.Assertions.{PartFits, PredicatesOf, RegionFits}
use Rattle.floyd_goal_forms.specs.Goals.{IsWellFormed}
use Rattle.floyd_goal_forms.specs.Terms.{FormulaFits, FormulasFit}
use Rattle.floyd_goal_parts.specs.Sources.{part_number, part_of}
use Rattle.floyd_goal_parts.specs.Writing.{at_most, equation, is_pointer}
use Rattle.floyd_goal_plans.specs.Counts.{count_of, is_array}
use Rattle.floyd_goal_trees.specs.Contexts.{context_of, scope_of}
use Rattle.floyd_goal_trees.specs.declared.args.Args.{Args}
use Rattle.floyd_goal_trees.specs.declared.goal.Goal.{Goal}
use Rattle.floyd_entail.specs.Facts.{HasMore, OfPart, Row, address_facts, compatible, compatible_terms, count_facts, facts, facts_of, in_turn, length_facts, share_bounds, share_facts, step_shape, value_facts}
use Rattle.floyd_entail_soundness.proofs.InPlace.{typed_at}
use Rattle.floyd_entail_soundness.proofs.Placing.{of_number, same_Ok}
use Rattle.floyd_entail_soundness.proofs.Sources.{of_result, part_found, parts_fit}
use Rattle.floyd_formed_pure.specs.Rows.{AreWellFormed}
use Rattle.floyd_formed_pure.proofs.Contexts.{both_all, with_more_formed}
use Rattle.floyd_formed_places.proofs.Places.{AreFine, Fine, literal_fine, path_fine, sizes_fine, steps_fine, term_fine}
use Rattle.floyd_formed_facts.proofs.Writing.{FitsIfSorted, says_formed, written_formed}

module _ (defs : Defs) (specs : SpecTable) (scope : Scope) where
  abbrev Formed : List PlainFormula → Type 0
  Formed fs = FormulasFit defs specs scope fs

  at_most_formed : (t u : Plain) → Fine defs scope t → Fine defs scope u → FitsIfSorted defs specs scope (at_most t u)
  at_most_formed t u h k = says_formed defs specs scope AtMost (t ∷ u ∷ []) tt (h, (k, tt))

  turned : (front back : Result (List PlainFormula) No) (fs : List PlainFormula) → ((gs : List PlainFormula) → front ≡ Ok gs → Formed gs) → ((gs : List PlainFormula) → back ≡ Ok gs → Formed gs) → in_turn front back ≡ Ok fs → Formed fs
  turned front back fs h k e =
      let p = on_ok_is front (λ gs. on_ok back (λ hs. Ok (gs ++ hs))) fs e in
      let q = on_ok_is back (λ hs. Ok (p.0 ++ hs)) fs p.2 in
      subst Formed (same_Ok {A = List PlainFormula} (p.0 ++ q.0) fs q.2) (both_all (FormulaFits defs specs scope) p.0 q.0 (h p.0 p.1) (k q.0 q.1))

  none_formed : (fs : List PlainFormula) → ◌≡◌ {A = Result (List PlainFormula) No} (Ok []) (Ok fs) → Formed fs
  none_formed fs e = subst Formed (same_Ok {A = List PlainFormula} [] fs e) tt

  address_formed : (r : Region) (fs : List PlainFormula) → RegionFits defs scope r → address_facts r ≡ Ok fs → Formed fs
  address_formed r fs f e =
      let root = term_fine defs scope Val r.root f.root in
      let sizes = sizes_fine defs scope r.ty.sizes f.type.sizes.sizes in
      let steps = steps_fine defs scope r.path f.steps in
      let terms : AreFine defs scope (compatible_terms r) =
      both_all (Fine defs scope) r.ty.sizes (flat_map step_terms r.path ++ r.root ∷ []) sizes (both_all (Fine defs scope) (flat_map step_terms r.path) (r.root ∷ []) steps (root, tt)) in
      written_formed defs specs scope (is_pointer r.root ∷ compatible r ∷ []) fs
      (says_formed defs specs scope IsPtr (r.root ∷ []) tt (root, tt), (says_formed defs specs scope (Compatible r.ty.shape (map step_shape r.path)) (compatible_terms r) f.type.sort terms, tt)) e

  count_fine : (u : SizedType) (n : Plain) → AreFine defs scope u.sizes → count_of u ≡ Some n → Fine defs scope n
  count_fine u n h e = by (is_array u.shape) e
    where
      first : (ts : List Plain) → AreFine defs scope ts → slice_get ts 0 ≡ Some n → Fine defs scope n
      first [] k f = absurd cc
      first (t ∷ ts) k f = let same : t ≡ n = cc in subst (Fine defs scope) same k.0

      by : (b : Bool) → (if b then slice_get u.sizes 0 else None) ≡ Some n → Fine defs scope n
      by true f = first u.sizes h f
      by false f = absurd cc

  length_formed : (v : Plain) (o : Option Plain) (fs : List PlainFormula) → Fine defs scope v → ((n : Plain) → o ≡ Some n → Fine defs scope n) → length_facts v o ≡ Ok fs → Formed fs
  length_formed v None fs h k e = none_formed fs e
  length_formed v (Some n) fs h k e =
      let p = on_ok_is (written (one Len v)) (count_facts n) fs e in
      let count = k n refl in
      let length = subst (Fine defs scope) (written_is (one Len v) p.0 p.1) ((tt, (h.0, tt)), (tt, (h.1, tt))) in
      written_formed defs specs scope (equation p.0 n ∷ at_most (literal (pos 0)) n ∷ []) fs
      (says_formed defs specs scope Equal (p.0 ∷ n ∷ []) tt (length, (count, tt)), (at_most_formed (literal (pos 0)) n (literal_fine defs scope (pos 0)) count, tt)) p.2

  share_formed : (share : Plain) (fs : List PlainFormula) → Fine defs scope share → share_facts share ≡ Ok fs → Formed fs
  share_formed share fs h e = by (is_some (literal_in share)) e
    where
      by : (b : Bool) → (if b then Ok [] else share_bounds share) ≡ Ok fs → Formed fs
      by true f = none_formed fs f
      by false f =
          written_formed defs specs scope (at_most (literal (pos 1)) share ∷ at_most share (literal (pos 16)) ∷ []) fs
          (at_most_formed (literal (pos 1)) share (literal_fine defs scope (pos 1)) h, (at_most_formed share (literal (pos 16)) h (literal_fine defs scope (pos 16)), tt)) f

  facts_formed : (r : Region) (v : Plain) (u : SizedType) (fs : List PlainFormula) → RegionFits defs scope r → Fine defs scope v → type_at defs.structs r.ty r.path ≡ Some u → facts r v u ≡ Ok fs → Formed fs
  facts_formed r v u fs f h t e =
      let sizes = path_fine defs scope r.path r.ty u (sizes_fine defs scope r.ty.sizes f.type.sizes.sizes) t in
      turned (address_facts r) (value_facts r v u) fs (λ gs i. address_formed r gs f i)
      (λ gs i. turned (length_facts v (count_of u)) (share_facts r.share) gs (λ hs j. length_formed v (count_of u) hs h (λ n q. count_fine u n sizes q) j) (λ hs j. share_formed r.share hs (term_fine defs scope Z r.share f.share) j) i)
      e

  part_formed : (p : Sep) (fs : List PlainFormula) → PartFits defs scope (PredicatesOf defs scope) p → facts_of defs.structs p ≡ Ok fs → Formed fs
  part_formed (FieldAt r v) fs fits e =
      let a = on_ok_is (nested_type defs.structs r.ty r.path) (facts r v) fs e in
      facts_formed r v a.0 fs fits.region (term_fine defs scope fits.sort v fits.term) (typed_at defs.structs r.ty a.0 r.path a.1) a.2
  part_formed (Padding r) fs fits e = absurd cc
  part_formed (Valid t) fs fits e = absurd cc
  part_formed Anything fs fits e = absurd cc
  part_formed (Predicate name terms) fs fits e = absurd cc

pub facts_forms : (defs : Defs) (specs : SpecTable) (goal : Goal) (args : Args) (goals : List Goal) → IsWellFormed defs specs goal → Row defs.structs goal args (Ok goals) → AreWellFormed defs specs goals
facts_forms defs specs goal args goals formed row =
    let k = part_number args.target in
    let found = of_result (part_of goal k) (OfPart defs.structs goal) goals row in
    let source = found.0.0 in
    let part = found.0.1 in
    let is = part_found goal k source part found.1 in
    let made = of_result (facts_of defs.structs part) (HasMore goal) goals found.2 in
    let scope = scope_of (context_of goal) in
    let fits = of_number (PartFits defs scope (PredicatesOf defs scope)) k source.parts part is.part_is (parts_fit defs specs goal source is.source_is formed) in
    let after = in_context goal (enriched (context_of goal) made.0) in
    let same : goals ≡ after ∷ [] = same_Ok {A = List Goal} goals (after ∷ []) made.2 in
    subst (AreWellFormed defs specs) (sym same) (with_more_formed defs specs goal made.0 formed (part_formed defs specs scope part made.0 fits made.1), tt)
