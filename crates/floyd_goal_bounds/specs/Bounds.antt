-- How many existentials the assertions of a goal have. They count nothing in its size.
use Rattle.std.specs.Prelude.{ℕ, ◌+◌, ◌≤◌, ◌^◌, List, length, Ok}
use Rattle.std.specs.List.{AllByRecursion}
use Rattle.floyd_assert_trees.specs.declared.assertion.Assertion.{Assertion}
use Rattle.floyd_assert_trees.specs.declared.items.Defs.{Defs}
use Rattle.floyd_assert_trees.specs.declared.spec.SpecTable.{SpecTable}
use Rattle.floyd_goal.specs.Stacks.{most}
use Rattle.floyd_goal_forms.specs.Goals.{IsWellFormed}
use Rattle.floyd_goal_trees.specs.declared.args.Args.{Args}
use Rattle.floyd_goal_trees.specs.declared.exits.Exit.{Exit}
use Rattle.floyd_goal_trees.specs.declared.exits.Exit.TheVariants as x
use Rattle.floyd_goal_trees.specs.declared.exits.Exits.{Exits}
use Rattle.floyd_goal_trees.specs.declared.goal.Goal.{Goal}
use Rattle.floyd_goal_trees.specs.declared.goal.Goal.TheVariants.{Run, Entail, Pure}
use Rattle.floyd_goal_trees.specs.Sizes.{goal_size}
use Rattle.floyd_pure_formulas.specs.Rows.{Row}
use Rattle.floyd_rewriting_soundness.specs.Small.{IsSmallGoal}

abbrev pub AreAtMost : ℕ → Assertion → Type 0
AreAtMost n a = length a.existentials ≤ n

abbrev pub ExitAtMost : ℕ → Exit → Type 0
ExitAtMost n x.None = Unit {0}
ExitAtMost n (x.To a) = AreAtMost n a
ExitAtMost n x.End = Unit {0}

pub record ExitsAtMost (n : ℕ) (exits : Exits) : Type 0 where
  pub normal : ExitAtMost n exits.normal
  pub brk : ExitAtMost n exits.brk
  pub cont : ExitAtMost n exits.cont
  pub ret : AreAtMost n exits.ret.post

-- no assertion of the goal has more than n existentials
abbrev pub HasAtMost : ℕ → Goal → Type 0
HasAtMost n (Run run) = AreAtMost n run.source × ExitsAtMost n run.exits
HasAtMost n (Entail entail) = AreAtMost n entail.source × AreAtMost n entail.target
HasAtMost n (Pure pure) = Unit {0}

-- No assertion of a goal that the row makes has more than m existentials more than those of the goal have at most.
abbrev pub AddsAtMost : ℕ → Row → Type 0
AddsAtMost m Row = (n : ℕ) (goal : Goal) (args : Args) (goals : List Goal) → HasAtMost n goal → Row goal args (Ok goals) → AllByRecursion (HasAtMost (n + m)) goals

-- a well-formed goal within the limit on all goals that are left, none of whose assertions has more than 2 ^ 61 existentials
abbrev pub SmallWithinLimits : Type 0
SmallWithinLimits = (defs : Defs) (specs : SpecTable) (goal : Goal) → IsWellFormed defs specs goal → goal_size goal ≤ most → HasAtMost (2 ^ 61) goal → IsSmallGoal goal
