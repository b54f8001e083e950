-- Goals with another source, or with hypotheses that the source gives.
use Rattle.std.proofs.Common.{◌≡◌, ℕ, List, [], ◌∷◌, ◌++◌, Result, Ok, Err, refl, sym, ap, subst, ◌∙◌}
use Rattle.std.specs.Prelude.{if◌then◌else◌}
use Rattle.floyd_text.specs.declared.refusal.No.{No}
use Rattle.floyd_clight_heap.specs.Heaplet.{Heaplet}
use Rattle.floyd_clight_machine.specs.Evaluation.{Temps}
use Rattle.floyd_tree_values.specs.BuiltIns.{Env}
use Rattle.floyd_assert_trees.specs.declared.assertion.Assertion.{Assertion}
use Rattle.floyd_assert_trees.specs.declared.binder.Binder.{Binder}
use Rattle.floyd_assert_trees.specs.declared.items.Defs.{Defs}
use Rattle.floyd_assert_trees.specs.declared.sep.Sep.{Sep}
use Rattle.floyd_assert_trees.specs.declared.spec.SpecTable.{SpecTable}
use Rattle.floyd_assert_meaning.specs.Assertions.{Holds}
use Rattle.floyd_assert_meaning.specs.Parts.{PartHolds, PartsHold}
use Rattle.floyd_assert_meaning.specs.Settings.{Setting, with_data}
use Rattle.floyd_goal.specs.Goals.{in_context, intros_first, some_left}
use Rattle.floyd_goal_trees.specs.Contexts.{context_of, scope_of}
use Rattle.floyd_goal_trees.specs.declared.context.Context.{Context}
use Rattle.floyd_goal_trees.specs.declared.goal.Goal.{Goal}
use Rattle.floyd_goal_trees.specs.declared.goal.Goal.TheVariants.{Run, Entail, Pure}
use Rattle.floyd_goal_forms.specs.Assertions.{AssertionFits, PartsFit, PredicatesOf}
use Rattle.floyd_goal_forms.specs.Goals.{IsWellFormed}
use Rattle.floyd_goal_forms.specs.Terms.{scope_with}
use Rattle.floyd_goal_meaning.specs.declared.linked.Linked.{Linked}
use Rattle.floyd_goal_meaning.specs.GoalHolds.{Given, HoldsIn, HoldsUnder}
use Rattle.floyd_goal_meaning.specs.Programs.{Further, Places, setting}
use Rattle.floyd_goal_laws.proofs.Consequences.{follows_under}
use Rattle.floyd_goal_parts.specs.Rows.{Answer, OfResult}
use Rattle.floyd_goal_parts.specs.Sources.{beside, from_source, in_place, part_at, part_in, part_of, source_of, when_named, with_parts}
use Rattle.floyd_entail_soundness.proofs.Placing.{put_there, same_Ok}

-- ---- what a row answers

-- what was found goes on
pub of_result : {A : Type 0} (r : Result A No) (Next : A → Answer → Type 0) (goals : List Goal) → OfResult r Next (Ok goals) → (a : A) × (r ≡ Ok a) × Next a (Ok goals)
of_result (Ok a) Next goals h = (a, refl, h)
of_result (Err why) Next goals h = absurd cc

-- ---- the source of a goal

-- its existentials have names
pub named : (a source : Assertion) → when_named a ≡ Ok source → (a ≡ source) × (source.existentials ≡ [])
named a source e = by a.existentials refl e
  where
    by : (bs : List Binder) → a.existentials ≡ bs → ◌≡◌ {A = Result Assertion No} (if some_left bs then Err intros_first else Ok a) (Ok source) → (a ≡ source) × (source.existentials ≡ [])
    by [] p q = let same : a ≡ source = same_Ok a source q in (same, ap (λ (x : Assertion). x.existentials) (sym same) ∙ p)
    by (b ∷ bs) p q = absurd cc

-- and the part of a number
pub record Found (goal : Goal) (k : ℕ) (source : Assertion) (part : Sep) : Type 0 where
  pub source_is : source_of goal ≡ Ok source
  pub part_is : part_at source.parts k ≡ Ok part

found_in : (r : Result Assertion No) (k : ℕ) (source : Assertion) (part : Sep) → part_in r k ≡ Ok (source, part) → (r ≡ Ok source) × (part_at source.parts k ≡ Ok part)
found_in (Err why) k source part e = absurd cc
found_in (Ok s) k source part e = by (part_at s.parts k) refl e
  where
    by : (q : Result Sep No) → part_at s.parts k ≡ q → beside s q ≡ Ok (source, part) → (◌≡◌ {A = Result Assertion No} (Ok s) (Ok source)) × (part_at source.parts k ≡ Ok part)
    by (Ok p) f g =
        let pair : ◌≡◌ {A = Assertion × Sep} (s, p) (source, part) = same_Ok {A = Assertion × Sep} (s, p) (source, part) g in
        let first : s ≡ source = ap (λ (x : Assertion × Sep). x.0) pair in
        let second : p ≡ part = ap (λ (x : Assertion × Sep). x.1) pair in
        (ap Ok first, subst (λ (x : Assertion). part_at x.parts k ≡ Ok part) first (f ∙ ap Ok second))
    by (Err why) f g = absurd cc

pub part_found : (goal : Goal) (k : ℕ) (source : Assertion) (part : Sep) → part_of goal k ≡ Ok (source, part) → Found goal k source part
part_found goal k source part e =
    let p = found_in (source_of goal) k source part e in
    record { source_is = p.0; part_is = p.1 }

module _ (goal : Goal) (source : Assertion) where
  -- a source without existentials
  pub no_existentials : source_of goal ≡ Ok source → source.existentials ≡ []
  no_existentials e = by goal e
    where
      by : (g : Goal) → source_of g ≡ Ok source → source.existentials ≡ []
      by (Run run) f = (named run.source source f).1
      by (Entail entail) f = (named entail.source source f).1
      by (Pure pure) f = absurd cc

pub source_fits : (defs : Defs) (specs : SpecTable) (goal : Goal) (source : Assertion) → source_of goal ≡ Ok source → IsWellFormed defs specs goal → AssertionFits defs specs (scope_of (context_of goal)) source
source_fits defs specs (Run run) source e w = subst (AssertionFits defs specs (scope_of run.context)) (named run.source source e).0 w.source
source_fits defs specs (Entail entail) source e w = subst (AssertionFits defs specs (scope_of entail.context)) (named entail.source source e).0 w.source
source_fits defs specs (Pure pure) source e w = absurd cc

-- its parts are well formed among the variables of the goal
pub parts_fit : (defs : Defs) (specs : SpecTable) (goal : Goal) (source : Assertion) → source_of goal ≡ Ok source → IsWellFormed defs specs goal → PartsFit defs (scope_of (context_of goal)) (PredicatesOf defs (scope_of (context_of goal))) source.parts
parts_fit defs specs goal source e w =
    let scope = scope_of (context_of goal) in
    subst (λ bs. PartsFit defs (scope_with bs ++ scope) (PredicatesOf defs (scope_with bs ++ scope)) source.parts) (no_existentials goal source e) (source_fits defs specs goal source e w).parts

module _ (S : Setting) (env : Env) (source : Assertion) where
  -- its parts hold under the environment alone
  pub parts_alone : (temps : Temps) (h : Heaplet) → source.existentials ≡ [] → Holds S env source temps h → PartsHold S env source.parts h
  parts_alone temps h e x = subst (λ bs. PartsHold S (with_data env bs x.witnesses) source.parts h) e x.parts

  -- it holds with parts in place of one that hold wherever that one does
  pub source_put : (k : ℕ) (p : Sep) (new : List Sep) → part_at source.parts k ≡ Ok p → source.existentials ≡ [] → ((g : Heaplet) → PartHolds S env p g → PartsHold S env new g) →
      (temps : Temps) (h : Heaplet) → Holds S env source temps h → Holds S env (with_parts source (in_place k new source.parts)) temps h
  source_put k p new e none f temps h x = record {
    witnesses = x.witnesses;
    sorted = x.sorted;
    props = x.props;
    locals = x.locals;
    parts = subst (λ bs. PartsHold S (with_data env bs x.witnesses) (in_place k new source.parts) h) (sym none) (put_there S env k source.parts p new h e f (parts_alone temps h none x));
  }

-- ---- goals

module _ (L : Linked) (more : List Further) (place : Places) (defs : Defs) (specs : SpecTable) (n : ℕ) where
  abbrev S : Setting
  S = setting L more place

  -- a goal follows from the one whose source holds wherever its own does
  pub from_other : (goal : Goal) (context : Context) (source new : Assertion) (env : Env) → source_of goal ≡ Ok source → ((temps : Temps) (h : Heaplet) → Holds S env source temps h → Holds S env new temps h) →
      Given S defs context env → HoldsIn L more place defs specs n (from_source goal context new) → HoldsUnder L more place specs n env goal
  from_other (Run run) context source new env e f g h =
      follows_under L more place defs specs n env env (Run run) (Run (record run { context = context; source = new }))
      (record {
        rest = refl;
        source = λ act k s. record {
          result = s.result;
          blocks = s.blocks;
          distinct = s.distinct;
          places = s.places;
          holds = f act.temps k (subst (λ a. Holds S env a act.temps k) (named run.source source e).0 s.holds);
        };
        exits = λ x k m. m;
      })
      (h env g)
  from_other (Entail entail) context source new env e f g h = λ temps k s. h env g temps k (f temps k (subst (λ a. Holds S env a temps k) (named entail.source source e).0 s))
  from_other (Pure pure) context source new env e f g h = absurd cc

  -- and from the one with hypotheses that are true wherever its source holds
  pub from_hypotheses : (goal : Goal) (context : Context) (source : Assertion) (env : Env) → source_of goal ≡ Ok source → ((temps : Temps) (h : Heaplet) → Holds S env source temps h → Given S defs context env) →
      HoldsIn L more place defs specs n (in_context goal context) → HoldsUnder L more place specs n env goal
  from_hypotheses (Run run) context source env e g h = λ keeps act k s. h env (g act.temps k (subst (λ a. Holds S env a act.temps k) (named run.source source e).0 s.holds)) keeps act k s
  from_hypotheses (Entail entail) context source env e g h = λ temps k s. h env (g temps k (subst (λ a. Holds S env a temps k) (named entail.source source e).0 s)) temps k s
  from_hypotheses (Pure pure) context source env e g h = absurd cc
