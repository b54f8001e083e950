-- Further hypotheses.
use Rattle.std.specs.Prelude.{◌⊎◌, ℕ, List, [], ◌∷◌}
use Rattle.std.specs.List.{AllByRecursion}
use Rattle.floyd_tree.specs.Formulas.{PlainFormula}
use Rattle.floyd_tree_values.specs.BuiltIns.{Env}
use Rattle.floyd_truth.specs.Truth.{AllTrue}
use Rattle.floyd_assert_trees.specs.declared.items.Defs.{Defs}
use Rattle.floyd_assert_trees.specs.declared.spec.SpecTable.{SpecTable}
use Rattle.floyd_assert_meaning.specs.Settings.{Setting}
use Rattle.floyd_goal.specs.Goals.{enriched, in_context}
use Rattle.floyd_goal_trees.specs.Contexts.{context_of}
use Rattle.floyd_goal_trees.specs.declared.goal.Goal.{Goal}
use Rattle.floyd_goal_meaning.specs.GoalHolds.{HoldsFor}
use Rattle.floyd_goal_laws.specs.Following.{Throughout}

-- of one of the lists all formulas are true
abbrev pub OneIsTrue : Setting → Env → List (List PlainFormula) → Type 0
OneIsTrue S env [] = ⊥
OneIsTrue S env (fs ∷ cases) = AllTrue S.defs S.has_spec env fs ⊎ OneIsTrue S env cases

-- A goal of any kind holds where it does with each of some lists of further hypotheses, if one of the lists is true under
-- each environment that is given for the goal. With one list the goal has hypotheses more, with none it is closed.
abbrev pub HoldsByCases : Type 0
HoldsByCases =
    (defs : Defs) (specs : SpecTable) (n : ℕ) (goal : Goal) (cases : List (List PlainFormula)) →
    Throughout defs specs (context_of goal) (λ S env. OneIsTrue S env cases) →
    AllByRecursion (λ fs. HoldsFor defs specs n (in_context goal (enriched (context_of goal) fs))) cases →
    HoldsFor defs specs n goal
