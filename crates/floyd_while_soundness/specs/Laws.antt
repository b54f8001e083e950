-- When `forward_while` is sound.
use Rattle.std.specs.Prelude.{ℕ, ◌+◌, ◌<◌, ◌^◌, List, length, Ok}
use Rattle.std.specs.List.{AllByRecursion}
use Rattle.floyd_assert_trees.specs.declared.assertion.Assertion.{Assertion}
use Rattle.floyd_assert_trees.specs.declared.items.Defs.{Defs}
use Rattle.floyd_assert_trees.specs.declared.spec.SpecTable.{SpecTable}
use Rattle.floyd_assert_laws.specs.InChanged.{body_nodes}
use Rattle.floyd_goal_trees.specs.Contexts.{context_of, scope_of}
use Rattle.floyd_goal_trees.specs.declared.args.Args.{Args}
use Rattle.floyd_goal_trees.specs.declared.context.Context.{Context}
use Rattle.floyd_goal_trees.specs.declared.goal.Goal.{Goal}
use Rattle.floyd_goal_forms.specs.Assertions.{AssertionFits}
use Rattle.floyd_goal_forms.specs.Goals.{IsWellFormed}
use Rattle.floyd_goal_meaning.specs.GoalHolds.{HoldsFor}
use Rattle.floyd_symexpr_soundness.specs.Laws.{AreLaidOut}
use Rattle.floyd_control.specs.ForwardWhile.{Row}

-- an assertion that is well formed in the goal's context, and with its variables has fewer than 2 ^ 63 nodes
pub record IsInvariant (defs : Defs) (specs : SpecTable) (context : Context) (a : Assertion) : Type 0 where
  pub fits : AssertionFits defs specs (scope_of context) a
  pub few : length context.variables + body_nodes a < 2 ^ 63

-- Structs lie in memory as their fields do, the goal is well formed, and so is what the command is given. Then the goal holds
-- for n steps where the goals of the row do.
abbrev pub WhilesAreSound : Type 0
WhilesAreSound =
    (defs : Defs) (specs : SpecTable) (n : ℕ) (goal : Goal) (args : Args) (goals : List Goal) →
    AreLaidOut defs.structs → IsWellFormed defs specs goal → AllByRecursion (IsInvariant defs specs (context_of goal)) args.assertions → Row defs.structs goal args (Ok goals) →
    AllByRecursion (HoldsFor defs specs n) goals → HoldsFor defs specs n goal
