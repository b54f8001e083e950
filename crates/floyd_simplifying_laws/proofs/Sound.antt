-- A goal of any kind holds where the simplified one does.
use Rattle.std.proofs.Common.{◌≡◌, ◌↔◌, inl, ℕ, List, [], ◌∷◌, Option, Some, None, Result, Ok, Err, refl, subst}
use Rattle.std.specs.List.{AllByRecursion}
use Rattle.std.specs.Option.{unwrap_or}
use Rattle.floyd_int.specs.declared.kinds.Value.{Value}
use Rattle.floyd_text.specs.declared.refusal.No.{No}
use Rattle.floyd_tree_values.specs.BuiltIns.{Env}
use Rattle.floyd_tree_values.specs.Rules.{DefsKeep, Scope, Suits}
use Rattle.floyd_clight_heap.specs.Heaplet.{Heaplet}
use Rattle.floyd_assert_trees.specs.declared.assertion.Assertion.{Assertion}
use Rattle.floyd_assert_trees.specs.declared.items.Defs.{Defs}
use Rattle.floyd_assert_trees.specs.declared.spec.SpecTable.{SpecTable}
use Rattle.floyd_assert_meaning.specs.Assertions.{Holds}
use Rattle.floyd_assert_meaning.specs.Settings.{Setting}
use Rattle.floyd_goal.specs.Goals.{intros_first, is_pending}
use Rattle.floyd_goal_trees.specs.Contexts.{after_command, scope_of}
use Rattle.floyd_goal_trees.specs.declared.goal.Entail.{Entail}
use Rattle.floyd_goal_trees.specs.declared.goal.Goal.{Goal}
use Rattle.floyd_goal_trees.specs.declared.goal.Goal.TheVariants as g
use Rattle.floyd_goal_trees.specs.declared.goal.Run.{Run}
use Rattle.floyd_goal_forms.specs.Assertions.{AssertionFits}
use Rattle.floyd_goal_meaning.specs.declared.linked.Linked.{Linked}
use Rattle.floyd_goal_meaning.specs.GoalHolds.{HoldsFor}
use Rattle.floyd_goal_meaning.specs.Links.{Has}
use Rattle.floyd_goal_meaning.specs.Programs.{Further, Places, setting}
use Rattle.floyd_goal_laws.specs.Following.{Follows}
use Rattle.floyd_goal_laws.proofs.Consequences.{all_in, from_one}
use Rattle.floyd_goal_laws.proofs.Givens.{given_after}
use Rattle.floyd_goal_fits.proofs.Goals.{pure_fits}
use Rattle.floyd_pure_formulas.proofs.Rowing.{goals_are, no_goals, passed}
use Rattle.floyd_pure_soundness.specs.Rows.{IsSoundOnWellFormed}
use Rattle.floyd_pure_soundness.proofs.Kept.{keeping_row}
use Rattle.floyd_pure_rewriting.specs.Changing.{entail_by, no_occurrence, run_by}
use Rattle.floyd_simplifying.specs.Assertions.{assertion_simplified}
use Rattle.floyd_pure_simplifying.specs.Simpl.{SimplRow, simplified_goal}
use Rattle.floyd_pure_simplifying.proofs.Simplifying.{simpl_true}
use Rattle.floyd_simplifying_laws.specs.Laws.{AreFit}
use Rattle.floyd_simplifying_laws.proofs.AssertionsKept.{assertion_kept}
use Rattle.floyd_simplifying_laws.proofs.Formed.{fit_there}

-- ---- the goals of the row

abbrev run_after : Run → Assertion → Goal
run_after run source = g.Run (record run { context = after_command run.context; source = source })

abbrev entail_after : Entail → Option Assertion → Option Assertion → Goal
entail_after entail source target =
    g.Entail (record { context = after_command entail.context; source = unwrap_or source entail.source; target = unwrap_or target entail.target })

run_goals : (run : Run) (x : Result (Option Assertion) No) (goals : List Goal) → Ok goals ≡ run_by run x → (made : Assertion) × (x ≡ Ok (Some made)) × (goals ≡ run_after run made ∷ [])
run_goals run (Ok (Some made)) goals e = (made, refl, goals_are goals (run_after run made ∷ []) e)
run_goals run (Ok None) goals e = absurd (no_goals goals no_occurrence e)
run_goals run (Err refusal) goals e = absurd (no_goals goals refusal e)

entail_goals : (entail : Entail) (x y : Result (Option Assertion) No) (goals : List Goal) → Ok goals ≡ entail_by entail x y → (p : Option Assertion) × (q : Option Assertion) × (x ≡ Ok p) × (y ≡ Ok q) × (goals ≡ entail_after entail p q ∷ [])
entail_goals entail (Err refusal) y goals e = absurd (no_goals goals refusal e)
entail_goals entail (Ok None) (Err refusal) goals e = absurd (no_goals goals refusal e)
entail_goals entail (Ok (Some a)) (Err refusal) goals e = absurd (no_goals goals refusal e)
entail_goals entail (Ok None) (Ok None) goals e = absurd (no_goals goals no_occurrence e)
entail_goals entail (Ok None) (Ok (Some b)) goals e = (None, Some b, refl, refl, goals_are goals (entail_after entail None (Some b) ∷ []) e)
entail_goals entail (Ok (Some a)) (Ok q) goals e = (Some a, q, refl, refl, goals_are goals (entail_after entail (Some a) q ∷ []) e)

-- ---- what follows

kept : (S : Setting) (scope : Scope) (env : Env) (a : Assertion) (made : Option Assertion) (temps : List ℕ → Value) (h : Heaplet) → DefsKeep S.defs → Suits scope env → AreFit S.defs scope a → assertion_simplified a ≡ Ok made → Holds S env (unwrap_or made a) temps h ↔ Holds S env a temps h
kept S scope env a None temps h keeps suits fit e = (λ p. p, λ p. p)
kept S scope env a (Some made) temps h keeps suits fit e = assertion_kept S scope env a made temps h keeps suits fit e

module _ (L : Linked) (more : List Further) (place : Places) (defs : Defs) (specs : SpecTable) (has : Has L defs specs) (env : Env) where
  abbrev S : Setting
  S = setting L more place

  run_follows : (run : Run) (made : Assertion) → Suits (scope_of run.context) env → AssertionFits defs specs (scope_of run.context) run.source → assertion_simplified run.source ≡ Ok (Some made) → Follows S env env (g.Run run) (run_after run made)
  run_follows run made suits fits e = record {
    rest = refl;
    source = λ act h s. record {
      result = s.result;
      blocks = s.blocks;
      distinct = s.distinct;
      places = s.places;
      holds = (assertion_kept S (scope_of run.context) env run.source made act.temps h has.rules suits (fit_there L defs specs has (scope_of run.context) run.source fits) e).1 s.holds;
    };
    exits = λ x h p. p;
  }

  entail_follows : (entail : Entail) (p q : Option Assertion) → Suits (scope_of entail.context) env → AssertionFits defs specs (scope_of entail.context) entail.source → AssertionFits defs specs (scope_of entail.context) entail.target →
      assertion_simplified entail.source ≡ Ok p → assertion_simplified entail.target ≡ Ok q → Follows S env env (g.Entail entail) (entail_after entail p q)
  entail_follows entail p q suits source target e i = record {
    source = λ temps h s. (kept S (scope_of entail.context) env entail.source p temps h has.rules suits (fit_there L defs specs has (scope_of entail.context) entail.source source) e).1 s;
    target = λ temps h t. (kept S (scope_of entail.context) env entail.target q temps h has.rules suits (fit_there L defs specs has (scope_of entail.context) entail.target target) i).0 t;
  }

pub simpl_sound : IsSoundOnWellFormed SimplRow
simpl_sound defs specs n (g.Run run) args goals formed args_fit row h =
    let p = run_goals run (assertion_simplified run.source) goals (passed (is_pending (g.Run run)) intros_first (λ answer. answer ≡ simplified_goal (g.Run run)) goals row) in
    record {
      in_each = λ L more place has apart lemmas env given.
          from_one L more place defs specs n env (g.Run run) (run_after run p.0 ∷ [])
          (inl (env, given_after (setting L more place) defs env run.context given, run_follows L more place defs specs has env run p.0 given.suits formed.source p.1))
          (all_in L more place defs specs n (run_after run p.0 ∷ []) has apart lemmas (subst (AllByRecursion (HoldsFor defs specs n)) p.2 h));
    }
simpl_sound defs specs n (g.Entail entail) args goals formed args_fit row h =
    let p = entail_goals entail (assertion_simplified entail.source) (assertion_simplified entail.target) goals (passed (is_pending (g.Entail entail)) intros_first (λ answer. answer ≡ simplified_goal (g.Entail entail)) goals row) in
    record {
      in_each = λ L more place has apart lemmas env given.
          from_one L more place defs specs n env (g.Entail entail) (entail_after entail p.0 p.1 ∷ [])
          (inl (env, given_after (setting L more place) defs env entail.context given, entail_follows L more place defs specs has env entail p.0 p.1 given.suits formed.source formed.target p.2 p.3))
          (all_in L more place defs specs n (entail_after entail p.0 p.1 ∷ []) has apart lemmas (subst (AllByRecursion (HoldsFor defs specs n)) p.4 h));
    }
simpl_sound defs specs n (g.Pure pure) args goals formed args_fit row h = keeping_row SimplRow simpl_true defs specs n pure args goals (pure_fits defs specs pure formed) args_fit row h
