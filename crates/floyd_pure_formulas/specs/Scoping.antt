-- Goals in which variables have the sorts of their binders.
use Rattle.std.specs.Prelude.{◌≡◌, ℕ, List, Some}
use Rattle.floyd_tree_sorts.specs.declared.sorts.Sort.{Sort}
use Rattle.floyd_tree_values.specs.Means.{Defs}
use Rattle.floyd_goal.specs.Sides.{context_of}
use Rattle.floyd_goal_trees.specs.declared.goal.Goal.{Goal}
use Rattle.floyd_goal_truth.specs.Scopes.{AllFit}
use Rattle.floyd_pure_formulas.specs.ConstructorsClauses.{TakesIn}
use Rattle.floyd_pure_formulas.specs.VariableCases.{sort_named}

-- The hypotheses are well formed, and each free occurrence of a variable of the context has its sort, so that a term of that
-- sort may stand in its place.
pub record IsScoped (defs : Defs) (goal : Goal) : Type 0 where
  pub hypotheses : AllFit defs (context_of goal) (context_of goal).hypotheses
  pub variables : (x : List ℕ) (s : Sort) → sort_named x (context_of goal).variables ≡ Some s → TakesIn goal x s
