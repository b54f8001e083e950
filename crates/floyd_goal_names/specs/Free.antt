-- The variables that are free in a goal.
use Rattle.std.specs.Prelude.{◌≡◌, ℕ, Bool, true, false, ◌||◌, List, [], ◌∷◌, map, bytes_eq}
use Rattle.std.specs.List.{list_any}
use Rattle.floyd_tree.specs.Formulas.{formula_mentions, formulas, formulas_mention}
use Rattle.floyd_tree_values.specs.Rules.{AreDistinct}
use Rattle.floyd_assert_trees.specs.declared.binder.Binder.{Binder}
use Rattle.floyd_assert_changes.specs.Changed.{has_name}
use Rattle.floyd_assert_laws.specs.Free.{assertion_mentions, post_mentions}
use Rattle.floyd_goal_trees.specs.Contexts.{context_of}
use Rattle.floyd_goal_trees.specs.declared.context.Context.{Context}
use Rattle.floyd_goal_trees.specs.declared.context.Mark.{Mark}
use Rattle.floyd_goal_trees.specs.declared.context.Mark.TheVariants as m
use Rattle.floyd_goal_trees.specs.declared.exits.Exit as e
use Rattle.floyd_goal_trees.specs.declared.exits.Exit.TheVariants as x
use Rattle.floyd_goal_trees.specs.declared.exits.Exits as g
use Rattle.floyd_goal_trees.specs.declared.goal.Goal.{Goal}
use Rattle.floyd_goal_trees.specs.declared.goal.Goal.TheVariants.{Run, Entail, Pure}
use Rattle.floyd_goal_meaning.specs.GoalHolds.{postcondition}

abbrev pub mark_mentions : Mark → List ℕ → Bool
mark_mentions m.Plain v = false
mark_mentions (m.Start name) v = false
mark_mentions (m.Induction name place names) v = list_any (bytes_eq v) names

abbrev pub context_mentions : Context → List ℕ → Bool
context_mentions context v = formulas_mention v (formulas context.hypotheses) || mark_mentions context.mark v

abbrev pub exit_mentions : e.Exit → List ℕ → Bool
exit_mentions x.None v = false
exit_mentions (x.To a) v = assertion_mentions a v
exit_mentions x.End v = false

abbrev pub exits_mention : g.Exits → List ℕ → Bool
exits_mention exits v = exit_mentions exits.normal v || (exit_mentions exits.brk v || (exit_mentions exits.cont v || post_mentions (postcondition exits.ret) v))

-- beside its context
abbrev pub goal_mentions : Goal → List ℕ → Bool
goal_mentions (Run run) v = assertion_mentions run.source v || exits_mention run.exits v
goal_mentions (Entail entail) v = assertion_mentions entail.source v || assertion_mentions entail.target v
goal_mentions (Pure pure) v = formula_mentions v pure.target

-- The names are distinct, and none is a variable of the goal's context or free in the goal.
pub record AreNew (names : List Binder) (goal : Goal) : Type 0 where
  pub distinct : AreDistinct (map (λ (b : Binder). b.name) names)
  pub variables : (v : List ℕ) → has_name v names ≡ true → has_name v (context_of goal).variables ≡ false
  pub in_context : (v : List ℕ) → has_name v names ≡ true → context_mentions (context_of goal) v ≡ false
  pub in_goal : (v : List ℕ) → has_name v names ≡ true → goal_mentions goal v ≡ false
