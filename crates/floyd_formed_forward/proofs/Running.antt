-- What is left to run, and the goals of what a statement needs, are well formed.
use Rattle.std.proofs.Common.{◌≡◌, List, [], ◌∷◌, ◌++◌, drop, map, Ok, refl, sym, ap, subst, ◌∙◌}
use Rattle.std.specs.List.{AllByRecursion}
use Rattle.floyd_clight.specs.declared.syntax.Stmt.{Stmt}
use Rattle.floyd_clight.specs.Flat.{flat}
use Rattle.floyd_tree_sorts.specs.declared.sorts.Sort.{Val}
use Rattle.floyd_tree.specs.Formulas.{PlainFormula}
use Rattle.floyd_tree.specs.Plain.{Plain}
use Rattle.floyd_tree_values.specs.Rules.{Scope}
use Rattle.floyd_assert_trees.specs.declared.assertion.Assertion.{Assertion}
use Rattle.floyd_assert_trees.specs.declared.items.Defs.{Defs}
use Rattle.floyd_assert_trees.specs.declared.spec.SpecTable.{SpecTable}
use Rattle.floyd_goal.specs.Goals.{enriched}
use Rattle.floyd_goal.specs.Rows.{Answer, after_side}
use Rattle.floyd_goal_forms.specs.Assertions.{AssertionFits}
use Rattle.floyd_goal_forms.specs.Bodies.{IsPart, behind, inside, whole}
use Rattle.floyd_goal_forms.specs.Goals.{ContextFits, ExitFits, ExitsFit, IsOfFunction, IsWellFormed, RunFits}
use Rattle.floyd_goal_forms.specs.Starts.{by_rest, run_goal}
use Rattle.floyd_goal_forms.specs.Terms.{FormulasFit, TermFits}
use Rattle.floyd_goal_parts.specs.Rows.{Sided}
use Rattle.floyd_goal_runs.specs.Needing.{Needing, valid_goal}
use Rattle.floyd_goal_trees.specs.Contexts.{scope_of}
use Rattle.floyd_goal_trees.specs.declared.context.Context.{Context}
use Rattle.floyd_goal_trees.specs.declared.exits.Exit as e
use Rattle.floyd_goal_trees.specs.declared.exits.Exit.TheVariants as x
use Rattle.floyd_goal_trees.specs.declared.goal.Goal.{Goal}
use Rattle.floyd_goal_trees.specs.declared.goal.Goal.TheVariants.{Entail, Run}
use Rattle.floyd_goal_trees.specs.declared.goal.Run as r
use Rattle.floyd_symexpr_rows.specs.declared.needs.Needs.{Needs}
use Rattle.floyd_forward.specs.Set.{runs_on}
use Rattle.floyd_forward_soundness.proofs.Needs.{needed_of}
use Rattle.floyd_forward_soundness.proofs.Setting.{same_goals}
use Rattle.floyd_formed_pure.specs.Rows.{AreWellFormed}
use Rattle.floyd_formed_pure.proofs.Contexts.{both_all, enriched_formed}
use Rattle.floyd_formed_entail.proofs.Sided.{sided_formed}

-- what is behind the first statement of a part is a part too
later_part : {ss all : List Stmt} → IsPart ss all → (s : Stmt) (rest : List Stmt) → ss ≡ s ∷ rest → IsPart rest all
later_part whole s rest f = subst (IsPart rest) (sym f) (behind whole)
later_part (behind p) s rest f = behind (later_part p s rest f)
later_part (inside b p) s rest f = inside b (later_part p s rest f)

module _ (defs : Defs) (specs : SpecTable) where
  -- a run of statements, or where there is none what its exit asks
  run_formed : (run : r.Run) → ((goal : Goal) → ContextFits defs specs goal run.context) → AssertionFits defs specs (scope_of run.context) run.source → IsOfFunction defs run.rest run.exits.ret → ExitsFit defs specs (scope_of run.context) run.exits → IsWellFormed defs specs (run_goal run)
  run_formed run context source statements exits = by run.rest run.exits.normal refl
    where
      all : RunFits defs specs run
      all = record { context = context (Run run); source = source; statements = statements; exits = exits }

      by : (ss : List Stmt) (exit : e.Exit) → run.exits.normal ≡ exit → IsWellFormed defs specs (by_rest run ss exit)
      by [] (x.To a) f = record { context = context (Entail (record { context = run.context; source = run.source; target = a })); source = source; target = subst (ExitFits defs specs (scope_of run.context)) f exits.normal }
      by [] x.None f = all
      by [] x.End f = all
      by (s ∷ ss) exit f = all

  module _ (run : r.Run) (formed : RunFits defs specs run) where
    abbrev scope : Scope
    scope = scope_of run.context

    next_statements : (s : Stmt) (rest : List Stmt) → run.rest ≡ s ∷ rest → IsOfFunction defs (drop 1 run.rest) run.exits.ret
    next_statements s rest f =
        let k = formed.statements in
        record {
          function = k.function;
          file = k.file;
          known = k.known;
          body = k.body;
          part = subst (λ ss. IsPart ss (flat k.function.body)) (sym (ap (drop 1) f)) (later_part k.part s rest f);
          result = k.result;
          blocks = k.blocks;
        }

    -- what is left behind a statement, in a context with the same variables
    pub left_formed : (s : Stmt) (rest : List Stmt) → run.rest ≡ s ∷ rest → (context : Context) (source : Assertion) → scope_of context ≡ scope → ((goal : Goal) → ContextFits defs specs goal context) → AssertionFits defs specs scope source → IsWellFormed defs specs (runs_on run context source)
    left_formed s rest f context source same fits k =
        run_formed (record run { context = context; source = source; rest = drop 1 run.rest }) fits (subst (λ c. AssertionFits defs specs c source) (sym same) k) (next_statements s rest f) (subst (λ c. ExitsFit defs specs c run.exits) (sym same) formed.exits)

    pub context_with : (kept : List PlainFormula) → FormulasFit defs specs scope kept → (goal : Goal) → ContextFits defs specs goal (enriched run.context kept)
    context_with kept h goal = enriched_formed defs specs (Run run) goal run.context kept formed.context h

    valid_goals : (kept : List PlainFormula) → FormulasFit defs specs scope kept → (ts : List Plain) → AllByRecursion (TermFits defs scope Val) ts → AreWellFormed defs specs (map (valid_goal (enriched run.context kept) run.source) ts)
    valid_goals kept h [] k = tt
    valid_goals kept h (t ∷ ts) k = (
      record {
        context = context_with kept h (valid_goal (enriched run.context kept) run.source t);
        source = formed.source;
        target = record { existentials = tt; props = tt; temporaries = tt; locals = tt; parts = (k.0, (tt, tt)) };
      },
      valid_goals kept h ts k.1,
    )

    -- the goals of what is needed, and those behind them
    pub needing_formed : (needs : Needs) (after : Context → Answer) (rest : List PlainFormula → List Goal) (goals : List Goal) → FormulasFit defs specs scope needs.sides → AllByRecursion (TermFits defs scope Val) needs.valid →
        ((kept : List PlainFormula) → after (enriched run.context kept) ≡ Ok (rest kept)) → ((kept : List PlainFormula) → FormulasFit defs specs scope kept → AreWellFormed defs specs (rest kept)) → Needing run.context run.source needs after (Ok goals) → AreWellFormed defs specs goals
    needing_formed needs after rest goals sides valid is next row =
        let w = needed_of run.context run.source needs after goals row in
        let kept = w.sides.kept in
        let valid_at' = λ (fs : List PlainFormula). map (valid_goal (enriched run.context fs) run.source) needs.valid in
        let all : List PlainFormula → List Goal = λ fs. valid_at' fs ++ rest fs in
        let same : rest kept ≡ w.rest = same_goals (rest kept) w.rest (sym (is kept) ∙ w.behind_is) in
        let are : goals ≡ after_side w.sides.goal (all kept) = w.goals_are ∙ ap (λ gs. after_side w.sides.goal (valid_at' kept ++ gs)) (sym same) in
        let sided : Sided run.context needs.sides all (Ok goals) = (Ok w.sides, w.side, subst (λ (gs : List Goal). ◌≡◌ {A = Answer} (Ok goals) (Ok gs)) are refl) in
        sided_formed defs specs (Run run) formed all goals needs.sides sides (λ fs h. both_all (IsWellFormed defs specs) (valid_at' fs) (rest fs) (valid_goals fs h needs.valid valid) (next fs h)) sided
