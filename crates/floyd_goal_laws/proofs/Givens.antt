-- Environments that are given for contexts with more hypotheses.
use Rattle.std.proofs.Common.{◌⊎◌, inl, inr, ℕ, List, [], ◌∷◌}
use Rattle.std.specs.List.{AllByRecursion}
use Rattle.floyd_tree.specs.Formulas.{PlainFormula}
use Rattle.floyd_tree_values.specs.BuiltIns.{Env}
use Rattle.floyd_truth.specs.Truth.{AllTrue}
use Rattle.floyd_assert_trees.specs.declared.items.Defs.{Defs}
use Rattle.floyd_assert_trees.specs.declared.spec.SpecTable.{SpecTable}
use Rattle.floyd_assert_meaning.specs.Settings.{Setting}
use Rattle.floyd_goal.specs.Goals.{enriched, in_context}
use Rattle.floyd_goal_truth.proofs.Uses.{all_true}
use Rattle.floyd_goal_trees.specs.Contexts.{after_command, context_of, unmarked}
use Rattle.floyd_goal_trees.specs.declared.context.Context.{Context}
use Rattle.floyd_goal_trees.specs.declared.context.Mark.{Mark}
use Rattle.floyd_goal_trees.specs.declared.context.Mark.TheVariants as m
use Rattle.floyd_goal_trees.specs.declared.goal.Goal.{Goal}
use Rattle.floyd_goal_trees.specs.declared.goal.Goal.TheVariants.{Run, Entail, Pure}
use Rattle.floyd_goal_meaning.specs.declared.linked.Linked.{Linked}
use Rattle.floyd_goal_meaning.specs.GoalHolds.{Given, HoldsFor, HoldsIn, HoldsUnder, LemmasAreTrue, MarkHolds}
use Rattle.floyd_goal_meaning.specs.Links.{Has, AreApart}
use Rattle.floyd_goal_meaning.specs.Programs.{Further, Places, setting}
use Rattle.floyd_goal_laws.specs.Cases.{OneIsTrue}

module _ (S : Setting) (defs : Defs) (env : Env) where
  pub mark_after : (mark : Mark) → MarkHolds S defs env mark → MarkHolds S defs env (unmarked mark)
  mark_after m.Plain h = tt
  mark_after (m.Start name) h = tt
  mark_after (m.Induction name place names) h = h

  pub given_after : (context : Context) → Given S defs context env → Given S defs (after_command context) env
  given_after context g = record { suits = g.suits; global = g.global; hypotheses = g.hypotheses; mark = mark_after context.mark g.mark }

  pub given_more : (context : Context) (fs : List PlainFormula) → Given S defs context env → AllTrue S.defs S.has_spec env fs → Given S defs (enriched context fs) env
  given_more context fs g t =
      record {
        suits = g.suits;
        global = g.global;
        hypotheses = all_true S.defs S.has_spec env context.hypotheses fs g.hypotheses t;
        mark = mark_after context.mark g.mark;
      }

module _ (L : Linked) (more : List Further) (place : Places) (defs : Defs) (specs : SpecTable) (n : ℕ) where
  -- what a goal says of an environment does not look at its context
  pub other_context : (goal : Goal) (context : Context) (env : Env) → HoldsIn L more place defs specs n (in_context goal context) → Given (setting L more place) defs context env → HoldsUnder L more place specs n env goal
  other_context (Run run) context env h g = h env g
  other_context (Entail entail) context env h g = h env g
  other_context (Pure pure) context env h g = h env g

  pub by_cases : (k : Has L defs specs) (a : AreApart L more place) (l : LemmasAreTrue (setting L more place) defs) (goal : Goal) (cases : List (List PlainFormula)) (env : Env) → Given (setting L more place) defs (context_of goal) env → OneIsTrue (setting L more place) env cases → AllByRecursion (λ fs. HoldsFor defs specs n (in_context goal (enriched (context_of goal) fs))) cases → HoldsUnder L more place specs n env goal
  by_cases k a l goal [] env g t h = absurd t
  by_cases k a l goal (fs ∷ cases) env g (inl t) h =
      other_context goal (enriched (context_of goal) fs) env (h.0.in_each L more place k a l) (given_more (setting L more place) defs env (context_of goal) fs g t)
  by_cases k a l goal (fs ∷ cases) env g (inr t) h = by_cases k a l goal cases env g t h.1
