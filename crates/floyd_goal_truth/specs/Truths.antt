-- When a Pure goal is true.
use Rattle.std.specs.Prelude.{ℕ, Bool, List, Option, Some, None}
use Rattle.floyd_int.specs.declared.kinds.Value.{Value}
use Rattle.floyd_tree_values.specs.BuiltIns.{Env}
use Rattle.floyd_tree_values.specs.Means.{Defs}
use Rattle.floyd_tree_values.specs.Rules.{Suits}
use Rattle.floyd_truth.specs.Truth.{Truth, AllTrue}
use Rattle.floyd_goal_trees.specs.declared.context.Context.{Context}
use Rattle.floyd_goal_trees.specs.declared.goal.Pure.{Pure}
use Rattle.floyd_goal_truth.specs.Scopes.{scope_of}

-- `specs` tells which values are functions that were declared with the SPEC of a name
module _ (defs : Defs) (specs : List ℕ → Value → Bool) where
  -- P of all data for the context's variables under which its hypotheses are true
  abbrev pub Under : Context → (Env → Type 0) → Type 0
  Under context P = (env : Env) → Suits (scope_of context) env → AllTrue defs specs env context.hypotheses → P env

  -- the target is true under all data under which the hypotheses are
  abbrev pub IsTrueGoal : Pure → Type 0
  IsTrueGoal pure = Under pure.context (λ env. Truth defs specs env pure.target)

  -- a goal that may be there
  abbrev pub IsTrueIfAny : Option Pure → Type 0
  IsTrueIfAny None = Unit {0}
  IsTrueIfAny (Some pure) = IsTrueGoal pure
