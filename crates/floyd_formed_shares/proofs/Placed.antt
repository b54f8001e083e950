-- Goals with other parts in the place of one part, or of two, are well formed.
use Rattle.std.proofs.Common.{◌≡◌, ℕ, zero, suc, ◌-◌, List, [], ◌∷◌, ◌++◌, take, drop, Result, Ok, refl, sym, subst}
use Rattle.std.specs.List.{AllByRecursion}
use Rattle.floyd_text.specs.declared.refusal.No.{No}
use Rattle.floyd_tree.specs.Formulas.{PlainFormula}
use Rattle.floyd_tree_values.specs.Rules.{Scope}
use Rattle.floyd_assert_trees.specs.declared.assertion.Assertion.{Assertion}
use Rattle.floyd_assert_trees.specs.declared.items.Defs.{Defs}
use Rattle.floyd_assert_trees.specs.declared.sep.Sep.{Sep}
use Rattle.floyd_assert_trees.specs.declared.spec.SpecTable.{SpecTable}
use Rattle.floyd_goal.specs.Goals.{enriched}
use Rattle.floyd_goal_trees.specs.Contexts.{after_command, context_of, scope_of}
use Rattle.floyd_goal_trees.specs.declared.goal.Goal.{Goal}
use Rattle.floyd_goal_forms.specs.Assertions.{AssertionFits, PartFits, PartsFit, PredicatesOf}
use Rattle.floyd_goal_forms.specs.Goals.{IsWellFormed}
use Rattle.floyd_goal_forms.specs.Terms.{FormulasFit, scope_with}
use Rattle.floyd_goal_parts.specs.declared.placing.Plan.{Plan}
use Rattle.floyd_goal_parts.specs.Rows.{InPlaceUnder, IsPutUnder, PutsUnder, put_under}
use Rattle.floyd_goal_parts.specs.Sources.{from_source, in_place, part_of, source_of, with_parts}
use Rattle.floyd_goal_plans.specs.declared.joining.Pair.{Pair}
use Rattle.floyd_goal_plans.specs.Joining.{IsJoined, IsJoinedUnder, joined, joined_under}
use Rattle.floyd_entail_soundness.proofs.Placing.{of_number, same_Ok}
use Rattle.floyd_entail_soundness.proofs.Sources.{no_existentials, of_result, part_found, parts_fit, source_fits}
use Rattle.floyd_formed_pure.specs.Rows.{AreWellFormed}
use Rattle.floyd_formed_pure.proofs.Contexts.{after_formed, both_all, context_formed, enriched_formed}
use Rattle.floyd_formed_entail.proofs.Sided.{sided_formed}
use Rattle.floyd_formed_places.proofs.Putting.{source_formed}

-- ---- lists

taken : {A : Type 0} (P : A → Type 0) (n : ℕ) (xs : List A) → AllByRecursion P xs → AllByRecursion P (take n xs)
taken P zero xs h = tt
taken P (suc n) [] h = tt
taken P (suc n) (x ∷ xs) h = (h.0, taken P n xs h.1)

dropped : {A : Type 0} (P : A → Type 0) (n : ℕ) (xs : List A) → AllByRecursion P xs → AllByRecursion P (drop n xs)
dropped P zero xs h = h
dropped P (suc n) [] h = tt
dropped P (suc n) (x ∷ xs) h = dropped P n xs h.1

pub placed : (P : Sep → Type 0) (k : ℕ) (new parts : List Sep) → AllByRecursion P new → AllByRecursion P parts → AllByRecursion P (in_place k new parts)
placed P k new parts h all = both_all P (take (k - 1) parts ++ new) (drop k parts) (both_all P (take (k - 1) parts) new (taken P (k - 1) parts all) h) (dropped P k parts all)

-- ---- plans

-- the side formulas and the parts of a plan are well formed
pub record IsPlanned (defs : Defs) (specs : SpecTable) (scope : Scope) (plan : Plan) : Type 0 where
  pub sides : FormulasFit defs specs scope plan.sides
  pub parts : PartsFit defs scope (PredicatesOf defs scope) plan.new

module _ (defs : Defs) (specs : SpecTable) (goal : Goal) (formed : IsWellFormed defs specs goal) (goals : List Goal) where
  abbrev scope : Scope
  scope = scope_of (context_of goal)

  abbrev P : Sep → Type 0
  P = PartFits defs scope (PredicatesOf defs scope)

  -- the source with other parts
  pub source_with : (source : Assertion) (parts : List Sep) → source_of goal ≡ Ok source → AllByRecursion P parts → AssertionFits defs specs scope (with_parts source parts)
  source_with source parts is k =
      let h = source_fits defs specs goal source is formed in
      record {
        existentials = h.existentials;
        props = h.props;
        temporaries = h.temporaries;
        locals = h.locals;
        parts = subst (λ bs. PartsFit defs (scope_with bs ++ scope) (PredicatesOf defs (scope_with bs ++ scope)) parts) (sym (no_existentials goal source is)) k;
      }

  -- the goal from another source, behind a command, and with side formulas among the hypotheses
  pub plain_formed : (source : Assertion) → AssertionFits defs specs scope source → AreWellFormed defs specs (from_source goal (after_command (context_of goal)) source ∷ [])
  plain_formed source h =
      let after = from_source goal (after_command (context_of goal)) source in
      (source_formed defs specs goal (after_command (context_of goal)) source refl formed (after_formed defs specs goal after (context_of goal) (context_formed defs specs goal formed)) h, tt)

  under_sides : (source : Assertion) → AssertionFits defs specs scope source → (kept : List PlainFormula) → FormulasFit defs specs scope kept → AreWellFormed defs specs (from_source goal (enriched (context_of goal) kept) source ∷ [])
  under_sides source h kept k =
      let after = from_source goal (enriched (context_of goal) kept) source in
      (source_formed defs specs goal (enriched (context_of goal) kept) source refl formed (enriched_formed defs specs goal after (context_of goal) kept (context_formed defs specs goal formed) k) h, tt)

  -- parts in the place of one
  pub under_formed : (k : ℕ) (planning : Sep → Result Plan No) → ((p : Sep) (plan : Plan) → P p → planning p ≡ Ok plan → IsPlanned defs specs scope plan) → InPlaceUnder goal k planning (Ok goals) → AreWellFormed defs specs goals
  under_formed k planning keeps row =
      let found = of_result (part_of goal k) (PutsUnder goal k planning) goals row in
      let source = found.0.0 in
      let part = found.0.1 in
      let is = part_found goal k source part found.1 in
      let made = of_result (planning part) (IsPutUnder goal k source) goals found.2 in
      let all = parts_fit defs specs goal source is.source_is formed in
      let plan = keeps part made.0 (of_number P k source.parts part is.part_is all) made.1 in
      let parts = in_place k made.0.new source.parts in
      let new = source_with source parts is.source_is (placed P k made.0.new source.parts plan.parts all) in
      sided_formed defs specs goal formed (put_under goal k source made.0.new) goals made.0.sides plan.sides (λ kept h. under_sides (with_parts source parts) new kept h) made.2

  -- parts in the place of two
  module _ (pair : Pair) (source : Assertion) (is : source_of goal ≡ Ok source) where
    joined_source : (new : List Sep) → AllByRecursion P new → AssertionFits defs specs scope (joined pair new source)
    joined_source new h =
        let all = parts_fit defs specs goal source is formed in
        let first = in_place pair.first new source.parts in
        source_with source (in_place pair.second [] first) is (placed P pair.second [] first tt (placed P pair.first new source.parts h all))

    pub join_formed : (new : List Sep) → AllByRecursion P new → IsJoined goal pair source new (Ok goals) → AreWellFormed defs specs goals
    join_formed new h row =
        let after = from_source goal (after_command (context_of goal)) (joined pair new source) in
        let same : goals ≡ after ∷ [] = same_Ok {A = List Goal} goals (after ∷ []) row in
        subst (AreWellFormed defs specs) (sym same) (plain_formed (joined pair new source) (joined_source new h))

    pub join_under_formed : (plan : Plan) → IsPlanned defs specs scope plan → IsJoinedUnder goal pair source plan (Ok goals) → AreWellFormed defs specs goals
    join_under_formed plan h row =
        sided_formed defs specs goal formed (joined_under goal pair source plan.new) goals plan.sides h.sides (λ kept k. under_sides (joined pair plan.new source) (joined_source plan.new h.parts) kept k) row
