-- Both laws of the row of a command, with one premise for all rows.
use Rattle.std.specs.Prelude.{ℕ, List, Ok}
use Rattle.std.specs.List.{AllByRecursion}
use Rattle.floyd_assert_trees.specs.declared.items.Defs.{Defs}
use Rattle.floyd_assert_trees.specs.declared.spec.SpecTable.{SpecTable}
use Rattle.floyd_goal.specs.Rows.{Answer}
use Rattle.floyd_goal_forms.specs.Goals.{IsWellFormed}
use Rattle.floyd_goal_meaning.specs.GoalHolds.{HoldsFor}
use Rattle.floyd_goal_trees.specs.Contexts.{context_of}
use Rattle.floyd_goal_trees.specs.declared.args.Args.{Args}
use Rattle.floyd_goal_trees.specs.declared.goal.Goal.{Goal}
use Rattle.floyd_rewriting_soundness.specs.Small.{IsSmallGoal}
use Rattle.floyd_formed_pure.specs.Rows.{AreWellFormed, IsGiven}

-- a row that looks at what a module's proofs stand on
abbrev pub Row : Type 1
Row = Defs → Goal → Args → Answer → Type 0

-- what a row asks besides
abbrev pub Asking : Type 1
Asking = Defs → Goal → Args → Type 0

abbrev pub Nothing : Asking
Nothing defs goal args = Unit {0}

-- The goal is well formed and not beyond all bounds, what the command is given is well formed, and the row asks for no more.
pub record Meets (Asks : Asking) (defs : Defs) (specs : SpecTable) (goal : Goal) (args : Args) : Type 0 where
  pub formed : IsWellFormed defs specs goal
  pub small : IsSmallGoal goal
  pub given : IsGiven defs specs (context_of goal) args
  pub asked : Asks defs goal args

-- Such a goal holds for n steps where the goals of the row do, and these are well formed.
pub record HasLaws (Asks : Asking) (R : Row) : Type 0 where
  pub sound : (defs : Defs) (specs : SpecTable) (n : ℕ) (goal : Goal) (args : Args) (goals : List Goal) → Meets Asks defs specs goal args → R defs goal args (Ok goals) → AllByRecursion (HoldsFor defs specs n) goals → HoldsFor defs specs n goal
  pub forms : (defs : Defs) (specs : SpecTable) (goal : Goal) (args : Args) (goals : List Goal) → Meets Asks defs specs goal args → R defs goal args (Ok goals) → AreWellFormed defs specs goals
