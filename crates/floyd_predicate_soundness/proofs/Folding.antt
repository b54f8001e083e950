-- `fold`: a predicate in place of the parts of its clause.
use Rattle.std.proofs.Common.{◌≡◌, ℕ, ◌+◌, ◌<◌, ◌^◌, List, [], ◌∷◌, All, Result, Ok, Err, refl, sym, ap, subst}
use Rattle.std.specs.List.{AllByRecursion}
use Rattle.std.proofs.lemmas.List.Elements.{All-cons, All-nil}
use Rattle.floyd_text.specs.declared.refusal.No.{No}
use Rattle.floyd_clight_heap.specs.Heaplet.{Heaplet}
use Rattle.floyd_clight_heap.proofs.Sums.{comm}
use Rattle.floyd_clight_machine.specs.Evaluation.{Temps}
use Rattle.floyd_tree.specs.Formulas.{PlainFormula}
use Rattle.floyd_tree.specs.Plain.{Plain, plains, sizes}
use Rattle.floyd_tree_values.specs.BuiltIns.{Env}
use Rattle.floyd_tree_values.specs.Data.{Datum}
use Rattle.floyd_tree_values.specs.Means.{Defs as ValueDefs}
use Rattle.floyd_tree_values.specs.Rules.{AreDistinct, Scope, Suits}
use Rattle.floyd_tree_values.proofs.AllFuns.{a_value}
use Rattle.floyd_truth.specs.Laws.{Changed}
use Rattle.floyd_truth.specs.Replace.{puts}
use Rattle.floyd_truth.specs.Truth.{AllTrue}
use Rattle.floyd_assert.specs.Removal.{Difference}
use Rattle.floyd_assert_trees.specs.declared.assertion.Assertion.{Assertion}
use Rattle.floyd_assert_trees.specs.declared.binder.Binder.{Binder}
use Rattle.floyd_assert_trees.specs.declared.items.Defs.{Defs}
use Rattle.floyd_assert_trees.specs.declared.sep.Sep.{Sep}
use Rattle.floyd_assert_trees.specs.declared.sep.Sep.TheVariants.{Predicate}
use Rattle.floyd_assert_trees.specs.declared.spec.SpecTable.{SpecTable}
use Rattle.floyd_assert_trees.specs.Meanings.{value_defs}
use Rattle.floyd_assert_changes.specs.Changed.{assertion_after, assertion_fits, assertion_with}
use Rattle.floyd_assert_instances.specs.Instances.{pairs, taken}
use Rattle.floyd_assert_laws.specs.InChanged.{body_nodes}
use Rattle.floyd_assert_laws.proofs.Replaced.{assertion_changed}
use Rattle.floyd_assert_meaning.specs.Assertions.{Holds}
use Rattle.floyd_assert_meaning.specs.Parts.{BodyHolds, PartsHold, body}
use Rattle.floyd_assert_meaning.specs.Settings.{AreFor, Setting, with_data, with_each}
use Rattle.floyd_assert_meaning.proofs.AlikeLaws.{alike_bodies}
use Rattle.floyd_assert_meaning.proofs.Inversions.{body_of}
use Rattle.floyd_assert_meaning.proofs.Orders.{apart, together}
use Rattle.floyd_assert_meaning.proofs.Sames.{out_of}
use Rattle.floyd_clauses.specs.Clauses.{clause_of}
use Rattle.floyd_goal.specs.declared.side_goals.Sides.{Sides}
use Rattle.floyd_goal.specs.Goals.{enriched}
use Rattle.floyd_goal.specs.Sides.{Side}
use Rattle.floyd_goal_formulas.specs.Fits.{Fits}
use Rattle.floyd_goal_forms.specs.Assertions.{AssertionFits, inner_scope}
use Rattle.floyd_goal_forms.specs.Goals.{IsWellFormed}
use Rattle.floyd_goal_forms.specs.Items.{ItemsFit, sorts_with}
use Rattle.floyd_goal_forms.specs.Terms.{FormulasFit, TermsFit, names_with}
use Rattle.floyd_goal_laws.proofs.Givens.{given_more}
use Rattle.floyd_goal_laws.proofs.Growing.{term_fits_program}
use Rattle.floyd_goal_meaning.specs.declared.linked.Linked.{Linked}
use Rattle.floyd_goal_meaning.specs.GoalHolds.{HoldsFor}
use Rattle.floyd_goal_meaning.specs.Links.{Has}
use Rattle.floyd_goal_meaning.specs.Programs.{Further, Places, defs_of, setting}
use Rattle.floyd_goal_parts.specs.Rows.{Answer, OfResult, after_side}
use Rattle.floyd_goal_parts.specs.Sources.{from_source, source_of}
use Rattle.floyd_goal_trees.specs.Contexts.{context_of, scope_of}
use Rattle.floyd_goal_trees.specs.declared.args.Args.{Args}
use Rattle.floyd_goal_trees.specs.declared.goal.Goal.{Goal}
use Rattle.floyd_funspec_laws.proofs.Made.{taken_is}
use Rattle.floyd_import_laws.proofs.Sorted.{formed_agrees, formed_sorted}
use Rattle.floyd_import_laws.proofs.Values.{MeanEach, changed_each}
use Rattle.floyd_links.specs.Imports.{with_terms}
use Rattle.floyd_entail_predicates.specs.Fold.{Folds, FoldsClause, FoldsFrom, FoldsWith, Removes, Row, below, folded, folded_source}
use Rattle.floyd_entail_soundness.proofs.Placing.{alone, same_Ok}
use Rattle.floyd_entail_soundness.proofs.Putting.{made_is}
use Rattle.floyd_entail_soundness.proofs.Sources.{from_other, no_existentials, of_result, parts_alone}
use Rattle.floyd_entail_soundness.proofs.UnderSides.{Answered, sides_hold}
use Rattle.floyd_clause_forms.specs.Laws.{AreGiven}
use Rattle.floyd_clause_forms.proofs.Folding.{arguments_fit, below_formed, instance_few, instance_formed, witnesses_fit, witnesses_suit}
use Rattle.floyd_clause_forms.proofs.Forming.{found, found_formed}
use Rattle.floyd_predicate_soundness.specs.Rows.{FoldIsGiven}
use Rattle.floyd_predicate_soundness.proofs.Clauses.{stands_for}
use Rattle.floyd_predicate_soundness.proofs.Placing.{gone_first}

-- ---- the values of terms, one by one

pub record Values (S : Setting) (env : Env) (bs : List Binder) (ts : List Plain) : Type 0 where
  pub data' : List Datum
  pub sorted : AreFor bs data'
  pub mean : MeanEach S.defs env ts data'

module _ (L : Linked) (more : List Further) (place : Places) (defs : Defs) (specs : SpecTable) (has : Has L defs specs) (scope : Scope) (env : Env) (suits : Suits scope env) where
  pub values : (bs : List Binder) (ts : List Plain) → TermsFit defs scope (sorts_with bs) ts → Values (setting L more place) env bs ts
  values [] [] h = record { data' = []; sorted = tt; mean = tt }
  values [] (t ∷ ts) h = absurd h
  values (b ∷ bs) [] h = absurd h
  values (b ∷ bs) (t ∷ ts) h =
      let v = a_value (defs_of L) scope env b.sort t has.rules suits (term_fits_program L defs specs has scope b.sort t h.0.fits) in
      let rest = values bs ts h.1 in
      record { data' = v.0 ∷ rest.data'; sorted = (v.2, rest.sorted); mean = (v.1, rest.mean) }

same_pairs : (bs : List Binder) (ts : List Plain) → with_terms bs ts ≡ pairs bs ts
same_pairs [] ts = refl
same_pairs (b ∷ bs) [] = refl
same_pairs (b ∷ bs) (t ∷ ts) = ap (λ more. (b.name, t) ∷ more) (same_pairs bs ts)

-- names mean what their terms mean
pub pairs_changed : (defs : ValueDefs) (env : Env) (bs : List Binder) (ts : List Plain) (ds : List Datum) → AreFor bs ds → MeanEach defs env ts ds → AreDistinct (names_with bs) → Changed defs env (pairs bs ts) (with_each env.variables bs ds)
pairs_changed defs env bs ts ds are mean distinct =
    subst (λ all. Changed defs env all (with_each env.variables bs ds)) (same_pairs bs ts) (λ x. changed_each defs env bs ts ds are mean distinct env.variables x)

pub all_fit : (defs : Defs) (specs : SpecTable) (scope : Scope) (fs : List PlainFormula) → FormulasFit defs specs scope fs → All (Fits (value_defs defs) scope) fs
all_fit defs specs scope [] h = All-nil (Fits (value_defs defs) scope)
all_fit defs specs scope (f ∷ fs) h = All-cons (Fits (value_defs defs) scope) f fs h.0.fits (all_fit defs specs scope fs h.1)

-- ---- an assertion holds where it does at terms for its existentials

pub closes : (S : Setting) (env : Env) (defs : Defs) (specs : SpecTable) (scope : Scope) (a : Assertion) (fits : AssertionFits defs specs scope a) (terms : List Plain) → AreGiven defs scope terms → (by : List (List ℕ × Plain)) → taken a.existentials terms ≡ Ok by →
    sizes (plains terms) + body_nodes a < 2 ^ 63 → (v : Values S env a.existentials terms) (h : Heaplet) →
    AllTrue S.defs S.has_spec env (assertion_after (puts by) (below a)).props → PartsHold S env (assertion_after (puts by) (below a)).parts h → BodyHolds S env a h
closes S env defs specs scope a fits terms given by taken_by small v h props parts =
    let bs = a.existentials in
    let data' = with_each env.variables bs v.data' in
    let t = taken_is bs terms by taken_by in
    let changed : Changed S.defs env by data' = subst (λ all. Changed S.defs env all data') (sym t.is) (pairs_changed S.defs env bs terms v.data' v.sorted v.mean fits.existentials) in
    let under = below_formed defs specs scope a fits in
    let alike = assertion_changed S env by data' changed (below a) (formed_sorted defs specs (inner_scope a scope) (below a) under) (instance_few defs specs scope a fits terms given by taken_by small)
    (formed_agrees defs specs (inner_scope a scope) (below a) under (puts by) (witnesses_suit defs specs scope a fits terms given by taken_by)) in
    let b = body_of ((alike_bodies S env env.variables data' (assertion_after (puts by) (below a)) (below a) alike h).0 (body [] tt props parts)) in
    body v.data' v.sorted (out_of env env.variables bs v.data' (λ e. AllTrue S.defs S.has_spec e a.props) b.props) (out_of env env.variables bs v.data' (λ e. PartsHold S e a.parts h) b.parts)

-- ---- the command

-- the parts of the instance are taken out, and its PROP makes the side formulas
pub record Folded (goal : Goal) (args : Args) (source : Assertion) (instance : Assertion) (goals : List Goal) : Type 0 where
  pub sides : Sides
  pub side : Side (context_of goal) instance.props (Ok sides)
  pub rest : List Sep
  pub difference : Difference source.parts 1 instance.parts (Ok rest)
  pub goals_are : goals ≡ after_side sides.goal (from_source goal (enriched (context_of goal) sides.kept) (folded_source args source rest) ∷ [])

pub folded_by : (goal : Goal) (args : Args) (source instance : Assertion) (goals : List Goal) → Folds goal args source instance (Ok goals) → Folded goal args source instance goals
folded_by goal args source instance goals (answer, side, next) = by answer side next
  where
    left : (sides : Sides) → Side (context_of goal) instance.props (Ok sides) → (rest : Result (List Sep) No) → Difference source.parts 1 instance.parts rest → ◌≡◌ {A = Answer} (Ok goals) (folded goal args source sides rest) → Folded goal args source instance goals
    left sides s (Ok rest) d e = record {
      sides = sides;
      side = s;
      rest = rest;
      difference = d;
      goals_are = same_Ok {A = List Goal} goals (after_side sides.goal (from_source goal (enriched (context_of goal) sides.kept) (folded_source args source rest) ∷ [])) e;
    }
    left sides s (Err why) d e = absurd cc

    by : (r : Result Sides No) → Side (context_of goal) instance.props r → OfResult r (Removes goal args source instance.parts) (Ok goals) → Folded goal args source instance goals
    by (Ok sides) s k = left sides s k.0 k.1 k.2
    by (Err why) s k = absurd cc

folded_for : (goal : Goal) (args : Args) (source : Assertion) (goals : List Goal) (a b : Assertion) → a ≡ b → Folded goal args source b goals → Folded goal args source a goals
folded_for goal args source goals a b e k = subst (λ x. Folded goal args source x goals) (sym e) k

-- what the command has found
pub record Found (defs : Defs) (goal : Goal) (args : Args) (goals : List Goal) : Type 0 where
  pub source : Assertion
  pub source_is : source_of goal ≡ Ok source
  pub clause : Assertion
  pub clause_is : clause_of defs args.name args.terms ≡ Ok clause
  pub by : List (List ℕ × Plain)
  pub taken_by : taken clause.existentials args.more ≡ Ok by
  pub done : Folded goal args source (assertion_after (puts by) (below clause)) goals

pub found_by : (defs : Defs) (goal : Goal) (args : Args) (goals : List Goal) → Row defs goal args (Ok goals) → Found defs goal args goals
found_by defs goal args goals row =
    let s = of_result (source_of goal) (FoldsFrom defs goal args) goals row in
    let c = of_result (clause_of defs args.name args.terms) (FoldsClause goal args s.0) goals s.2 in
    let b = of_result (taken c.0.existentials args.more) (FoldsWith goal args s.0 c.0) goals c.2 in
    let i = of_result (assertion_with b.0 (below c.0)) (Folds goal args s.0) goals b.2 in
    let is = made_is assertion_fits (assertion_after (puts b.0) (below c.0)) i.0 i.1 in
    record {
      source = s.0;
      source_is = s.1;
      clause = c.0;
      clause_is = c.1;
      by = b.0;
      taken_by = b.1;
      done = folded_for goal args s.0 goals (assertion_after (puts b.0) (below c.0)) i.0 is (folded_by goal args s.0 i.0 goals i.2);
    }

pub fold_sound : (defs : Defs) (specs : SpecTable) (n : ℕ) (goal : Goal) (args : Args) (goals : List Goal) → ItemsFit defs specs → IsWellFormed defs specs goal → FoldIsGiven defs goal args → Row defs goal args (Ok goals) → AllByRecursion (HoldsFor defs specs n) goals → HoldsFor defs specs n goal
fold_sound defs specs n goal args goals items formed asks row h =
    let context = context_of goal in
    let scope = scope_of context in
    let d = found_by defs goal args goals row in
    let source = d.source in
    let clause = d.clause in
    let instance = assertion_after (puts d.by) (below clause) in
    let f = found defs args.name args.terms clause d.clause_is in
    let terms_fit = arguments_fit defs scope args.name args.terms clause f asks.terms in
    let fits = found_formed defs specs scope args.name args.terms (sizes (plains args.more)) clause items.preds asks.few f terms_fit in
    let small = asks.few.clause clause d.clause_is in
    let more_fit = witnesses_fit defs specs scope clause fits args.more asks.more d.by d.taken_by in
    let instance_fits = instance_formed defs specs scope clause fits args.more asks.more d.by d.taken_by small in
    let behind : List PlainFormula → List Goal = λ kept. from_source goal (enriched context kept) (folded_source args source d.done.rest) ∷ [] in
    let answered : Answered context instance.props behind goals = record { sides = d.done.sides; side = d.done.side; goals_are = d.done.goals_are } in
    let hold = sides_hold defs specs n context instance.props behind goals (all_fit defs specs scope instance.props instance_fits.props) answered h in
    let none = no_existentials goal source d.source_is in
    let new = folded_source args source d.done.rest in
    record {
      in_each = λ L more place has apart' lemmas env given.
          let S = setting L more place in
          let true' = hold.0 L more place has apart' lemmas env given in
          let v = values L more place defs specs has scope env given.suits clause.existentials args.more more_fit in
          let stands = stands_for L more place defs specs has scope env given.suits args.name args.terms (sizes (plains args.more)) clause items.preds asks.few f terms_fit in
          let goes : (temps : Temps) (g : Heaplet) → Holds S env source temps g → Holds S env new temps g = λ temps g x.
          let a = apart S env instance.parts d.done.rest g (gone_first S env instance.parts source.parts d.done.rest 1 g d.done.difference (parts_alone S env source temps g none x)) in
          let b = closes S env defs specs scope clause fits args.more asks.more d.by d.taken_by small v a.0 true'.0 a.3 in
          let p = alone S env (Predicate args.name args.terms) a.0 ((stands a.0).1 b) in
          let all = together S env d.done.rest (Predicate args.name args.terms ∷ []) a.1 a.0 g (comm a.2) a.4 p in
          record {
            witnesses = x.witnesses;
            sorted = x.sorted;
            props = x.props;
            locals = x.locals;
            parts = subst (λ bs. PartsHold S (with_data env bs x.witnesses) new.parts g) (sym none) all;
          } in
          from_other L more place defs specs n goal (enriched context d.done.sides.kept) source new env d.source_is goes (given_more S defs env context d.done.sides.kept given true'.1) (hold.1.0.in_each L more place has apart' lemmas);
    }
