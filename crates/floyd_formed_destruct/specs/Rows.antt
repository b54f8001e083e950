-- When the row of a command keeps goals well formed that are not beyond all bounds.
use Rattle.std.specs.Prelude.{List, Ok}
use Rattle.floyd_assert_trees.specs.declared.items.Defs.{Defs}
use Rattle.floyd_assert_trees.specs.declared.spec.SpecTable.{SpecTable}
use Rattle.floyd_goal_trees.specs.Contexts.{context_of}
use Rattle.floyd_goal_trees.specs.declared.args.Args.{Args}
use Rattle.floyd_goal_trees.specs.declared.goal.Goal.{Goal}
use Rattle.floyd_goal_forms.specs.Goals.{IsWellFormed}
use Rattle.floyd_pure_formulas.specs.Rows.{Row}
use Rattle.floyd_rewriting_soundness.specs.Small.{IsSmallGoal}
use Rattle.floyd_formed_pure.specs.Rows.{AreWellFormed, IsGiven}

-- Each goal is well formed that the row makes of a well-formed goal with few nodes and existentials, where what the command is
-- given is well formed.
abbrev pub KeepsFormsOfSmall : Row → Type 0
KeepsFormsOfSmall Row =
    (defs : Defs) (specs : SpecTable) (goal : Goal) (args : Args) (goals : List Goal) →
    IsWellFormed defs specs goal → IsSmallGoal goal → IsGiven defs specs (context_of goal) args → Row goal args (Ok goals) → AreWellFormed defs specs goals
