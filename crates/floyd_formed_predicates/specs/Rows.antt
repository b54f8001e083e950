-- When the row of a command that looks at items keeps goals well formed.
use Rattle.std.specs.Prelude.{List, Ok}
use Rattle.floyd_assert_trees.specs.declared.items.Defs.{Defs}
use Rattle.floyd_assert_trees.specs.declared.spec.SpecTable.{SpecTable}
use Rattle.floyd_goal_trees.specs.declared.args.Args.{Args}
use Rattle.floyd_goal_trees.specs.declared.goal.Goal.{Goal}
use Rattle.floyd_goal_forms.specs.Goals.{IsWellFormed}
use Rattle.floyd_goal_forms.specs.Items.{ItemsFit}
use Rattle.floyd_formed_pure.specs.Rows.{AreWellFormed}
use Rattle.floyd_predicate_soundness.specs.Rows.{Row}

-- Over items that are well formed, each goal is well formed that the row makes of a well-formed goal, for which what the
-- command is given is as it asks.
abbrev pub KeepsFormsOverItems : (Defs → Goal → Args → Type 0) → Row → Type 0
KeepsFormsOverItems Asks Row =
    (defs : Defs) (specs : SpecTable) (goal : Goal) (args : Args) (goals : List Goal) →
    ItemsFit defs specs → IsWellFormed defs specs goal → Asks defs goal args → Row defs goal args (Ok goals) → AreWellFormed defs specs goals
