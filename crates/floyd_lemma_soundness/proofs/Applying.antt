-- `apply`: a goal holds where it does with the right side of a lemma that is true at the terms.
use Rattle.std.proofs.Common.{◌≡◌, ℕ, ◌+◌, ◌<◌, ◌≤◌, ◌^◌, true, false, List, [], ◌∷◌, ◌++◌, length, map, All, Option, Some, None, Result, Ok, Err, refl, sym, ◌∙◌, ap, subst, arith}
use Rattle.std.specs.Prelude.{bytes_eq}
use Rattle.std.specs.List.{AllByRecursion, list_any}
use Rattle.std.specs.Map.{lookup}
use Rattle.std.proofs.lemmas.List.{length-map}
use Rattle.floyd_text.specs.declared.refusal.No.{No}
use Rattle.floyd_clight_heap.specs.Heaplet.{Heaplet, empty}
use Rattle.floyd_tree.specs.Formulas.{PlainFormula}
use Rattle.floyd_tree.specs.Plain.{Plain, plains, sizes}
use Rattle.floyd_tree_values.specs.BuiltIns.{Env}
use Rattle.floyd_tree_values.specs.Data.{Datum}
use Rattle.floyd_tree_values.specs.Rules.{Scope}
use Rattle.floyd_truth.specs.Laws.{nodes}
use Rattle.floyd_truth.specs.Replace.{puts}
use Rattle.floyd_truth.specs.Truth.{AllTrue}
use Rattle.floyd_assert.specs.Removal.{Difference}
use Rattle.floyd_assert_trees.specs.declared.assertion.Assertion.{Assertion}
use Rattle.floyd_assert_trees.specs.declared.binder.Binder.{Binder}
use Rattle.floyd_assert_trees.specs.declared.items.Defs.{Defs}
use Rattle.floyd_assert_trees.specs.declared.items.Lemma.{Lemma}
use Rattle.floyd_assert_trees.specs.declared.sep.Sep.{Sep}
use Rattle.floyd_assert_trees.specs.declared.spec.SpecTable.{SpecTable}
use Rattle.floyd_assert_changes.specs.Changed.{has_name, inside, part_after}
use Rattle.floyd_assert_instances.specs.Instances.{pairs, taken}
use Rattle.floyd_assert_laws.specs.InChanged.{body_nodes}
use Rattle.floyd_assert_meaning.specs.Assertions.{LemmaHoldsFor}
use Rattle.floyd_assert_meaning.specs.Parts.{BodyHolds, PartsHold, body, none}
use Rattle.floyd_assert_meaning.specs.Settings.{AreFor, Setting, with_data}
use Rattle.floyd_assert_meaning.proofs.Inversions.{body_of}
use Rattle.floyd_goal.specs.declared.side_goals.Sides.{Sides}
use Rattle.floyd_goal.specs.Goals.{enriched, in_context, intros_first, is_pending}
use Rattle.floyd_goal.specs.Sides.{Side}
use Rattle.floyd_goal_formulas.specs.Fits.{Fits}
use Rattle.floyd_assert_trees.specs.Meanings.{value_defs}
use Rattle.floyd_goal_forms.specs.Goals.{IsWellFormed}
use Rattle.floyd_goal_forms.specs.Items.{ItemsFit, LemmaFits}
use Rattle.floyd_goal_forms.specs.Terms.{names_with}
use Rattle.floyd_goal_laws.proofs.Givens.{given_more, other_context}
use Rattle.floyd_goal_meaning.specs.declared.linked.Linked.{Linked}
use Rattle.floyd_goal_meaning.specs.GoalHolds.{Given, HoldsFor, LemmasAreTrue}
use Rattle.floyd_goal_meaning.specs.Links.{Has}
use Rattle.floyd_goal_meaning.specs.Programs.{Further, Places, defs_of, setting}
use Rattle.floyd_goal_parts.specs.Rows.{Answer, OfResult, after_side}
use Rattle.floyd_goal_parts.specs.Sources.{source_of}
use Rattle.floyd_goal_trees.specs.Contexts.{context_of, scope_of}
use Rattle.floyd_goal_trees.specs.declared.args.Args.{Args}
use Rattle.floyd_goal_trees.specs.declared.goal.Entail as e
use Rattle.floyd_goal_trees.specs.declared.goal.Goal.{Goal}
use Rattle.floyd_goal_trees.specs.declared.goal.Goal.TheVariants.{Run, Entail, Pure}
use Rattle.floyd_goal_trees.specs.declared.goal.Run as r
use Rattle.floyd_import_laws.proofs.Collected.{named}
use Rattle.floyd_import_laws.proofs.Freed.{freed_allowed}
use Rattle.floyd_import_laws.proofs.Sorted.{formed_sorted}
use Rattle.floyd_import_laws.proofs.Values.{MeanEach}
use Rattle.floyd_entail_predicates.specs.Settling.{settled}
use Rattle.floyd_entail_lemmas.specs.Apply.{Applies, AppliesLemma, AppliesNamed, AppliesSides, IsConcluded, RemovesFrom, Row, proved, proved_one, used, used_source}
use Rattle.floyd_entail_soundness.proofs.Placing.{same_Ok}
use Rattle.floyd_entail_soundness.proofs.Sources.{no_existentials, of_result, source_fits}
use Rattle.floyd_entail_soundness.proofs.UnderSides.{Answered, sides_hold}
use Rattle.floyd_entail_soundness.proofs.Validating.{passed}
use Rattle.floyd_entail_soundness.proofs.Written.{both_true}
use Rattle.floyd_clause_forms.specs.Laws.{AreGiven}
use Rattle.floyd_predicate_soundness.proofs.Clauses.{apart_holds}
use Rattle.floyd_predicate_soundness.proofs.Folding.{all_fit, values}
use Rattle.floyd_predicate_soundness.proofs.Items.{lemma_fits}
use Rattle.floyd_predicate_soundness.proofs.Settling.{settled_holds}
use Rattle.floyd_lemma_soundness.specs.Rows.{ApplyIsGiven, HasFewNodes}
use Rattle.floyd_lemma_soundness.proofs.Forming.{IsPlain, applied, both_plain, by_few, by_is, left_of, left_props, none_left, plain_right, right_of, sorts_are, terms_fit, whole_few, whole_formed, whole_right}
use Rattle.floyd_lemma_soundness.proofs.Stating.{from_terms, to_terms}
use Rattle.floyd_lemma_soundness.proofs.Using.{used_holds}

-- ---- what the row answers

-- the side formulas, and what is left of the source
pub record Used (goal : Goal) (left right : Assertion) (goals : List Goal) : Type 0 where
  pub sides : Sides
  pub side : Side (context_of goal) left.props (Ok sides)
  pub source : Assertion
  pub source_is : source_of goal ≡ Ok source
  pub rest : List Sep
  pub difference : Difference source.parts 1 left.parts (Ok rest)
  pub goals_are : goals ≡ after_side sides.goal (settled goal sides.kept (used_source source right rest) ∷ [])

module _ (goal : Goal) (left right : Assertion) (goals : List Goal) where
  used_by : (sides : Sides) → Side (context_of goal) left.props (Ok sides) → OfResult (source_of goal) (RemovesFrom goal left.parts right sides) (Ok goals) → Used goal left right goals
  used_by sides side row =
      let s = of_result (source_of goal) (RemovesFrom goal left.parts right sides) goals row in
      by s.0 s.1 s.2.0 s.2.1 s.2.2
    where
      by : (source : Assertion) → source_of goal ≡ Ok source → (rest : Result (List Sep) No) → Difference source.parts 1 left.parts rest → ◌≡◌ {A = Answer} (Ok goals) (used goal source right sides rest) → Used goal left right goals
      by source is (Ok rest) d e = record {
        sides = sides;
        side = side;
        source = source;
        source_is = is;
        rest = rest;
        difference = d;
        goals_are = same_Ok {A = List Goal} goals (after_side sides.goal (settled goal sides.kept (used_source source right rest) ∷ [])) e;
      }
      by source is (Err why) d e = absurd cc

  -- the side formulas were answered
  pub of_sides : (P : Sides → Answer → Type 0) → (answer : Result Sides No) → Side (context_of goal) left.props answer → OfResult answer P (Ok goals) → (sides : Sides) × Side (context_of goal) left.props (Ok sides) × P sides (Ok goals)
  of_sides P (Ok sides) side row = (sides, side, row)
  of_sides P (Err why) side row = absurd cc

pub run_used : (run : r.Run) (left right : Assertion) (goals : List Goal) → Applies (Run run) left right (Ok goals) → Used (Run run) left right goals
run_used run left right goals row =
    let s = of_sides (Run run) left right goals (AppliesSides (Run run) left right) row.0 row.1 row.2 in
    used_by (Run run) left right goals s.0 s.1 s.2

pub entail_used : (entail : e.Entail) (left right : Assertion) (goals : List Goal) → Applies (Entail entail) left right (Ok goals) → Used (Entail entail) left right goals
entail_used entail left right goals row =
    let s = of_sides (Entail entail) left right goals (AppliesSides (Entail entail) left right) row.0 row.1 row.2 in
    used_by (Entail entail) left right goals s.0 s.1 s.2

-- ---- the command

-- the lemma is true at the terms, wherever what a proof stands on is there
abbrev pub IsTrueAt : Defs → SpecTable → Goal → Lemma → List Plain → Type 0
IsTrueAt defs specs goal l terms =
    (L : Linked) (more : List Further) (place : Places) → Has L defs specs → LemmasAreTrue (setting L more place) defs → (env : Env) → Given (setting L more place) defs (context_of goal) env →
    (ds : List Datum) → AreFor l.with ds → MeanEach (defs_of L) env terms ds → LemmaHoldsFor (setting L more place) l ds

module _ (defs : Defs) (specs : SpecTable) (n : ℕ) (goal : Goal) (terms : List Plain) (l : Lemma) (goals : List Goal) (items : ItemsFit defs specs) (formed : IsWellFormed defs specs goal) (fits : LemmaFits defs specs l) (given : AreGiven defs (scope_of (context_of goal)) terms) (few : HasFewNodes l terms (length (context_of goal).variables)) (true' : IsTrueAt defs specs goal l terms) (by : List (List ℕ × Plain)) (taken_by : taken l.with terms ≡ Ok by) where
  abbrev vars : List Binder
  vars = (context_of goal).variables

  abbrev scope : Scope
  scope = scope_of (context_of goal)

  abbrev left : Assertion
  left = left_of l by

  abbrev right : Assertion
  right = right_of (context_of goal).variables l by

  among : (y : List ℕ) → has_name y vars ≡ true → list_any (bytes_eq y) (names_with vars) ≡ true
  among y e = sym (named y vars) ∙ e

  small : length (names_with vars) + body_nodes (whole_right l by) < 2 ^ 63
  small = subst (λ m. m + body_nodes (whole_right l by) < 2 ^ 63) (sym (length-map vars (λ (b : Binder). b.name))) (whole_few defs specs scope l fits terms given (length vars) few by taken_by)

  module _ (L : Linked) (more : List Further) (place : Places) (has : Has L defs specs) (lemmas : LemmasAreTrue (setting L more place) defs) (env : Env) (g : Given (setting L more place) defs (context_of goal) env) where
    abbrev S : Setting
    S = setting L more place

    free : (v : List ℕ) → has_name v right.existentials ≡ true → has_name v vars ≡ false
    free v q =
        freed_allowed S env (λ x. has_name x vars) (names_with vars) among (whole_right l by) (formed_sorted defs specs scope (whole_right l by) (whole_formed defs specs scope l fits terms given (length vars) few by taken_by)) small v q

    -- where the left side holds, so does the right one
    gives : (h : Heaplet) → BodyHolds S env left h → BodyHolds S env right h
    gives h b =
        let sorts = sorts_are defs specs scope l fits terms given (length vars) few by taken_by in
        let is = by_is defs specs scope l fits terms given (length vars) few by taken_by in
        let low = by_few defs specs scope l fits terms given (length vars) few by taken_by in
        let least : nodes (pairs l.with terms) + body_nodes l.left < 2 ^ 63 = subst (λ all. nodes all + body_nodes l.left < 2 ^ 63) is (left_low low) in
        let most : nodes (pairs l.with terms) + body_nodes l.right < 2 ^ 63 = subst (λ all. nodes all + body_nodes l.right < 2 ^ 63) is (right_low low) in
        let v = values L more place defs specs has scope env g.suits l.with terms (terms_fit defs specs scope l fits terms given (length vars) few by taken_by) in
        let holds = true' L more place has lemmas env g v.data' v.sorted v.mean in
        let before = from_terms S defs specs items.preds has.preds has.rules env g.global l.with fits.with terms sorts v.data' v.sorted v.mean l.left fits.left least fits.left_item.no_local h (subst (λ all. BodyHolds S env (left_of l all) h) is b) in
        let after = to_terms S defs specs items.preds has.preds has.rules env g.global l.with fits.with terms sorts v.data' v.sorted v.mean l.right fits.right most fits.right_item.no_local h (holds h before) in
        apart_holds S env defs specs scope (λ x. has_name x vars) (names_with vars) among (whole_right l by) (whole_formed defs specs scope l fits terms given (length vars) few by taken_by) small h
        (subst (λ all. BodyHolds S env (whole_right l all) h) (sym is) after)
      where
        left_low : nodes by ≤ sizes (plains terms) → nodes by + body_nodes l.left < 2 ^ 63
        left_low k =
            let m = few.left in
            omega (arith, k, m)

        right_low : nodes by ≤ sizes (plains terms) → nodes by + body_nodes l.right < 2 ^ 63
        right_low k =
            let m = few.right in
            omega (arith, k, m)

    -- it has no existentials
    of_left : (h : Heaplet) → AllTrue S.defs S.has_spec env left.props → PartsHold S env left.parts h → BodyHolds S env left h
    of_left h p m =
        let bare = none_left defs specs scope l fits terms given (length vars) few by taken_by in
        body [] (subst (λ bs. AreFor bs []) (sym bare) tt) (subst (λ bs. AllTrue S.defs S.has_spec (with_data env bs []) left.props) (sym bare) p) (subst (λ bs. PartsHold S (with_data env bs []) left.parts h) (sym bare) m)

  sides_fit : All (Fits (value_defs defs) scope) left.props
  sides_fit = all_fit defs specs scope left.props (left_props defs specs scope l fits terms given (length vars) few by taken_by)

  -- on memory
  pub used_sound : Used goal left right goals → AllByRecursion (HoldsFor defs specs n) goals → HoldsFor defs specs n goal
  used_sound u h =
      let context = context_of goal in
      let behind : List PlainFormula → List Goal = λ kept. settled goal kept (used_source u.source right u.rest) ∷ [] in
      let answered : Answered context left.props behind goals = record { sides = u.sides; side = u.side; goals_are = u.goals_are } in
      let hold = sides_hold defs specs n context left.props behind goals sides_fit answered h in
      record {
        in_each = λ L more place has apart' lemmas env g.
            let S = setting L more place in
            let t = hold.0 L more place has apart' lemmas env g in
            settled_holds L more place defs specs n goal u.source (used_source u.source right u.rest) u.sides.kept env u.source_is
            (used_holds S env defs specs vars u.source right left.parts u.rest (no_existentials goal u.source u.source_is) (source_fits defs specs goal u.source u.source_is formed) u.difference
            (free L more place has lemmas env g) (λ k m. gives L more place has lemmas env g k (of_left L more place has lemmas env g k t.0 m)))
            g t.1 (hold.1.0.in_each L more place has apart' lemmas);
      }

  -- on formulas alone
  pub concluded_sound : IsPlain l.left → IsPlain l.right → (sides : Sides) → Side (context_of goal) left.props (Ok sides) → IsConcluded goal right sides (Ok goals) → AllByRecursion (HoldsFor defs specs n) goals → HoldsFor defs specs n goal
  concluded_sound p q sides side row h =
      let context = context_of goal in
      let behind : List PlainFormula → List Goal = λ kept. in_context goal (enriched context (kept ++ right.props)) ∷ [] in
      let answered : Answered context left.props behind goals = record { sides = sides; side = side; goals_are = same_Ok {A = List Goal} goals (after_side sides.goal (behind sides.kept)) row } in
      let hold = sides_hold defs specs n context left.props behind goals sides_fit answered h in
      let no_parts : left.parts ≡ [] = ap (map (part_after (inside (puts by) l.left))) p.parts in
      record {
        in_each = λ L more place has apart' lemmas env g.
            let S = setting L more place in
            let t = hold.0 L more place has apart' lemmas env g in
            let parts : PartsHold S env left.parts empty = subst (λ ps. PartsHold S env ps empty) (sym no_parts) (none refl) in
            let b = body_of (gives L more place has lemmas env g empty (of_left L more place has lemmas env g empty t.0 parts)) in
            let props = subst (λ bs. AllTrue S.defs S.has_spec (with_data env bs b.witnesses) right.props) (plain_right vars l by q) b.props in
            other_context L more place defs specs n goal (enriched context (sides.kept ++ right.props)) env (hold.1.0.in_each L more place has apart' lemmas)
            (given_more S defs env context (sides.kept ++ right.props) g (both_true S.defs env S.has_spec sides.kept right.props t.1 props));
      }

pub applied_sound : (defs : Defs) (specs : SpecTable) (n : ℕ) (goal : Goal) (terms : List Plain) (l : Lemma) (goals : List Goal) → ItemsFit defs specs → IsWellFormed defs specs goal → LemmaFits defs specs l → AreGiven defs (scope_of (context_of goal)) terms → HasFewNodes l terms (length (context_of goal).variables) →
    IsTrueAt defs specs goal l terms → AppliesLemma goal terms l (Ok goals) → AllByRecursion (HoldsFor defs specs n) goals → HoldsFor defs specs n goal
applied_sound defs specs n (Run run) terms l goals items formed fits given few true' row h =
    let a = applied (Run run) l terms goals row in
    used_sound defs specs n (Run run) terms l goals items formed fits given few true' a.by a.taken_by (run_used run (left_of l a.by) (right_of run.context.variables l a.by) goals a.applies) h
applied_sound defs specs n (Entail entail) terms l goals items formed fits given few true' row h =
    let a = applied (Entail entail) l terms goals row in
    used_sound defs specs n (Entail entail) terms l goals items formed fits given few true' a.by a.taken_by (entail_used entail (left_of l a.by) (right_of entail.context.variables l a.by) goals a.applies) h
applied_sound defs specs n (Pure pure) terms l goals items formed fits given few true' row h =
    let a = applied (Pure pure) l terms goals row in
    let p = both_plain l a.in_reach in
    let left = left_of l a.by in
    let right = right_of pure.context.variables l a.by in
    let s = of_sides (Pure pure) left right goals (AppliesSides (Pure pure) left right) a.applies.0 a.applies.1 a.applies.2 in
    concluded_sound defs specs n (Pure pure) terms l goals items formed fits given few true' a.by a.taken_by p.0 p.1 s.0 s.1 s.2 h

-- ---- a lemma that is proved

pub proved_parts : (o : Option (Unit {0})) (x : Option Lemma) (name : List ℕ) (l : Lemma) → proved_one o x name ≡ Ok l → (o ≡ Some tt) × (x ≡ Some l)
proved_parts None x name l e = absurd cc
proved_parts (Some u) None name l e = absurd cc
proved_parts (Some u) (Some k) name l e = (refl, ap Some (same_Ok k l e))

pub apply_sound : (defs : Defs) (specs : SpecTable) (n : ℕ) (goal : Goal) (args : Args) (goals : List Goal) → ItemsFit defs specs → IsWellFormed defs specs goal → ApplyIsGiven defs goal args → Row defs goal args (Ok goals) → AllByRecursion (HoldsFor defs specs n) goals → HoldsFor defs specs n goal
apply_sound defs specs n goal args goals items formed asks row h =
    let w = passed (is_pending goal) intros_first (AppliesNamed defs goal args) goals row in
    let r = of_result (proved defs args.name) (AppliesLemma goal args.terms) goals w.1 in
    let p = proved_parts (lookup (bytes_eq args.name) defs.proved) (lookup (bytes_eq args.name) defs.lemmas) args.name r.0 r.1 in
    applied_sound defs specs n goal args.terms r.0 goals items formed (lemma_fits defs specs defs.lemmas args.name r.0 items.lemmas p.1) asks.terms (asks.few r.0 r.1)
    (λ L more place has lemmas env g ds are mean. lemmas args.name r.0 p.0 p.1 ds are) r.2 h
