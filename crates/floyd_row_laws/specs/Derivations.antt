-- Derivations over a table of rows: step by step the goals of a row take the place of the first goal, until none is left.
use Rattle.std.specs.Prelude.{◌≡◌, ℕ, List, [], ◌∷◌, ◌++◌, Ok}
use Rattle.std.specs.List.{AllByRecursion}
use Rattle.floyd_assert_trees.specs.declared.items.Defs.{Defs}
use Rattle.floyd_assert_trees.specs.declared.spec.SpecTable.{SpecTable}
use Rattle.floyd_goal_meaning.specs.GoalHolds.{HoldsFor}
use Rattle.floyd_goal_trees.specs.Contexts.{context_of}
use Rattle.floyd_goal_trees.specs.declared.args.Args.{Args}
use Rattle.floyd_goal_trees.specs.declared.goal.Goal.{Goal}
use Rattle.floyd_rewriting_soundness.specs.Small.{IsSmallGoal}
use Rattle.floyd_formed_pure.specs.Rows.{AreWellFormed, IsGiven}
use Rattle.floyd_row_laws.specs.Laws.{Asking, HasLaws, Row}

-- a command, what it is given, and the goals that it makes
pub record Step (Command : Type 0) : Type 0 where
  pub command : Command
  pub args : Args
  pub made : List Goal

module _ (Command : Type 0) (row : Command → Row) (asks : Command → Asking) where
  -- Each goal that a command meets is not beyond all bounds, what the command is given is well formed, and its row asks for no
  -- more.
  abbrev pub Derives : Defs → SpecTable → List (Step Command) → List Goal → Type 0
  Derives defs specs [] goals = goals ≡ []
  Derives defs specs (s ∷ steps) [] = ⊥
  Derives defs specs (s ∷ steps) (goal ∷ left) =
      IsSmallGoal goal × IsGiven defs specs (context_of goal) s.args × asks s.command defs goal s.args × row s.command defs goal s.args (Ok s.made) × Derives defs specs steps (s.made ++ left)

  -- Where all rows have their laws, well-formed goals from which nothing is left hold for every number of steps.
  abbrev pub DerivedGoalsHold : Type 0
  DerivedGoalsHold =
      ((c : Command) → HasLaws (asks c) (row c)) → (defs : Defs) (specs : SpecTable) (steps : List (Step Command)) (goals : List Goal) → AreWellFormed defs specs goals → Derives defs specs steps goals →
      (n : ℕ) → AllByRecursion (HoldsFor defs specs n) goals
