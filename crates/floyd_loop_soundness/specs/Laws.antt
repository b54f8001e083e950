-- When `forward_loop` is sound.
use Rattle.std.specs.Prelude.{ℕ, List, Ok}
use Rattle.std.specs.List.{AllByRecursion}
use Rattle.floyd_assert_trees.specs.declared.items.Defs.{Defs}
use Rattle.floyd_assert_trees.specs.declared.spec.SpecTable.{SpecTable}
use Rattle.floyd_goal_trees.specs.declared.args.Args.{Args}
use Rattle.floyd_goal_trees.specs.declared.goal.Goal.{Goal}
use Rattle.floyd_goal_meaning.specs.GoalHolds.{HoldsFor}
use Rattle.floyd_control.specs.ForwardLoop.{Row}

-- A goal holds for n steps where the goals of the row do.
abbrev pub LoopsAreSound : Type 0
LoopsAreSound =
    (defs : Defs) (specs : SpecTable) (n : ℕ) (goal : Goal) (args : Args) (goals : List Goal) →
    Row goal args (Ok goals) → AllByRecursion (HoldsFor defs specs n) goals → HoldsFor defs specs n goal
