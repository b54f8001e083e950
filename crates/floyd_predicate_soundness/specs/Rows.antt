-- When the row of a command that looks at items is sound: a goal holds where all goals do that the row makes of it.
use Rattle.std.specs.Prelude.{◌≡◌, ℕ, List, length, Ok}
use Rattle.std.specs.List.{AllByRecursion}
use Rattle.floyd_tree.specs.Plain.{Plain, plains, sizes}
use Rattle.floyd_assert_trees.specs.declared.assertion.Assertion.{Assertion}
use Rattle.floyd_assert_trees.specs.declared.items.Defs.{Defs}
use Rattle.floyd_assert_trees.specs.declared.sep.Sep.TheVariants.{Predicate}
use Rattle.floyd_assert_trees.specs.declared.spec.SpecTable.{SpecTable}
use Rattle.floyd_goal_trees.specs.Contexts.{context_of, scope_of}
use Rattle.floyd_goal_trees.specs.declared.args.Args.{Args}
use Rattle.floyd_goal_trees.specs.declared.goal.Goal.{Goal}
use Rattle.floyd_goal_forms.specs.Goals.{IsWellFormed}
use Rattle.floyd_goal_forms.specs.Items.{ItemsFit}
use Rattle.floyd_goal_meaning.specs.GoalHolds.{HoldsFor}
use Rattle.floyd_goal_parts.specs.Rows.{Answer}
use Rattle.floyd_goal_parts.specs.Sources.{part_number, part_of}
use Rattle.floyd_clause_forms.specs.Laws.{AreGiven, HasFewNodes}

-- a row that looks at the items that a module sees
abbrev pub Row : Type 1
Row = Defs → Goal → Args → Answer → Type 0

-- Over items that are well formed, a well-formed goal, for which what the command is given is as it asks, holds for n steps
-- where the goals of the row do.
abbrev pub IsSoundOverItems : (Defs → Goal → Args → Type 0) → Row → Type 0
IsSoundOverItems Asks Row =
    (defs : Defs) (specs : SpecTable) (n : ℕ) (goal : Goal) (args : Args) (goals : List Goal) →
    ItemsFit defs specs → IsWellFormed defs specs goal → Asks defs goal args → Row defs goal args (Ok goals) →
    AllByRecursion (HoldsFor defs specs n) goals → HoldsFor defs specs n goal

-- the clause of the predicate that is named has few nodes, also beside the variables of the goal
abbrev pub UnfoldIsGiven : Defs → Goal → Args → Type 0
UnfoldIsGiven defs goal args =
    (source : Assertion) (name : List ℕ) (terms : List Plain) → part_of goal (part_number args.target) ≡ Ok (source, Predicate name terms) →
    HasFewNodes defs name terms (length (context_of goal).variables)

-- the terms are well formed, and the clause has few nodes, also beside those that are put in the place of its existentials
pub record FoldIsGiven (defs : Defs) (goal : Goal) (args : Args) : Type 0 where
  pub terms : AreGiven defs (scope_of (context_of goal)) args.terms
  pub more : AreGiven defs (scope_of (context_of goal)) args.more
  pub few : HasFewNodes defs args.name args.terms (sizes (plains args.more))
