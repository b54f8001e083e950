-- When the row of a command is sound on goals that are not beyond all bounds: new names are looked for among 2 ^ 63, and where
-- an assertion has fewer nodes and existentials than half of that, one is found.
use Rattle.std.specs.Prelude.{ℕ, ◌<◌, ◌^◌, List, Ok}
use Rattle.std.specs.List.{AllByRecursion}
use Rattle.floyd_assert_laws.specs.InChanged.{body_nodes}
use Rattle.floyd_assert_trees.specs.declared.assertion.Assertion.{Assertion}
use Rattle.floyd_assert_trees.specs.declared.items.Defs.{Defs}
use Rattle.floyd_assert_trees.specs.declared.spec.SpecTable.{SpecTable}
use Rattle.floyd_assert_trees.specs.Meanings.{value_defs}
use Rattle.floyd_goal_changes.specs.Changed.{covering}
use Rattle.floyd_goal_forms.specs.Goals.{IsWellFormed}
use Rattle.floyd_goal_meaning.specs.GoalHolds.{HoldsFor}
use Rattle.floyd_goal_trees.specs.Contexts.{context_of}
use Rattle.floyd_goal_trees.specs.declared.args.Args.{Args}
use Rattle.floyd_goal_trees.specs.declared.exits.Exit.{Exit}
use Rattle.floyd_goal_trees.specs.declared.exits.Exit.TheVariants as x
use Rattle.floyd_goal_trees.specs.declared.exits.Exits.{Exits}
use Rattle.floyd_goal_trees.specs.declared.goal.Goal.{Goal}
use Rattle.floyd_goal_trees.specs.declared.goal.Goal.TheVariants.{Run, Entail, Pure}
use Rattle.floyd_pure_formulas.specs.Holds.{ArgsFit}
use Rattle.floyd_pure_formulas.specs.Rows.{Row}

-- the nodes of its formulas and terms, and its existentials
abbrev pub IsSmall : Assertion → Type 0
IsSmall a = body_nodes a < 2 ^ 62

abbrev pub IsSmallExit : Exit → Type 0
IsSmallExit x.None = Unit {0}
IsSmallExit (x.To a) = IsSmall a
IsSmallExit x.End = Unit {0}

-- the postcondition with its term of RETURN
pub record AreSmallExits (exits : Exits) : Type 0 where
  pub normal : IsSmallExit exits.normal
  pub brk : IsSmallExit exits.brk
  pub cont : IsSmallExit exits.cont
  pub ret : IsSmall (covering exits.ret.post exits.ret.value)

-- each assertion of the goal
abbrev pub IsSmallGoal : Goal → Type 0
IsSmallGoal (Run run) = IsSmall run.source × AreSmallExits run.exits
IsSmallGoal (Entail entail) = IsSmall entail.source × IsSmall entail.target
IsSmallGoal (Pure pure) = Unit {0}

-- Such a goal of any kind, which is well formed, holds for n steps where the goals of the row do.
abbrev pub IsSoundOnSmall : Row → Type 0
IsSoundOnSmall Row =
    (defs : Defs) (specs : SpecTable) (n : ℕ) (goal : Goal) (args : Args) (goals : List Goal) →
    IsWellFormed defs specs goal → IsSmallGoal goal → ArgsFit (value_defs defs) (context_of goal) args → Row goal args (Ok goals) →
    AllByRecursion (HoldsFor defs specs n) goals → HoldsFor defs specs n goal
