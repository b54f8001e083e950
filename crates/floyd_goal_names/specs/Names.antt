-- New variables, and hypotheses about them.
use Rattle.std.specs.Prelude.{ℕ, List, ◌++◌}
use Rattle.floyd_tree.specs.Formulas.{PlainFormula}
use Rattle.floyd_tree_values.specs.BuiltIns.{Env}
use Rattle.floyd_tree_values.specs.Data.{Datum}
use Rattle.floyd_truth.specs.Truth.{AllTrue}
use Rattle.floyd_assert_trees.specs.declared.binder.Binder.{Binder}
use Rattle.floyd_assert_trees.specs.declared.items.Defs.{Defs}
use Rattle.floyd_assert_trees.specs.declared.spec.SpecTable.{SpecTable}
use Rattle.floyd_assert_meaning.specs.Settings.{Setting, AreFor, with_data}
use Rattle.floyd_goal.specs.Goals.{in_context}
use Rattle.floyd_goal_trees.specs.Contexts.{context_of, unmarked}
use Rattle.floyd_goal_trees.specs.declared.context.Context.{Context}
use Rattle.floyd_goal_trees.specs.declared.goal.Goal.{Goal}
use Rattle.floyd_goal_meaning.specs.GoalHolds.{HoldsFor}
use Rattle.floyd_goal_laws.specs.Following.{Throughout}
use Rattle.floyd_goal_names.specs.Free.{AreNew}

-- behind a command, with these variables and hypotheses more
abbrev pub with_names : Context → List Binder → List PlainFormula → Context
with_names context names fs = record { variables = context.variables ++ names; hypotheses = context.hypotheses ++ fs; mark = unmarked context.mark }

-- for some data of their sorts for the names the formulas are true
pub record AreThere (S : Setting) (env : Env) (names : List Binder) (fs : List PlainFormula) : Type 0 where
  pub data' : List Datum
  pub sorted : AreFor names data'
  pub hold : AllTrue S.defs S.has_spec (with_data env names data') fs

-- A goal of any kind holds where it does with new variables and hypotheses about them, if there are data for these under
-- each environment that is given for the goal.
abbrev pub HoldsWithNames : Type 0
HoldsWithNames =
    (defs : Defs) (specs : SpecTable) (n : ℕ) (goal : Goal) (names : List Binder) (fs : List PlainFormula) → AreNew names goal →
    Throughout defs specs (context_of goal) (λ S env. AreThere S env names fs) →
    HoldsFor defs specs n (in_context goal (with_names (context_of goal) names fs)) →
    HoldsFor defs specs n goal
