-- When the row of a command is sound: a goal holds where all goals do that the row makes of it.
use Rattle.std.specs.Prelude.{◌≡◌, ℕ, List, Some, Ok, bytes_eq}
use Rattle.std.specs.List.{AllByRecursion}
use Rattle.std.specs.Map.{lookup}
use Rattle.floyd_tree_sorts.specs.declared.sorts.Sort.{Sort}
use Rattle.floyd_assert_trees.specs.declared.items.Defs.{Defs}
use Rattle.floyd_assert_trees.specs.declared.spec.SpecTable.{SpecTable}
use Rattle.floyd_assert_trees.specs.Meanings.{value_defs}
use Rattle.floyd_goal_trees.specs.Contexts.{context_of}
use Rattle.floyd_goal_trees.specs.declared.args.Args.{Args}
use Rattle.floyd_goal_trees.specs.declared.context.Context.{Context}
use Rattle.floyd_goal_trees.specs.declared.context.Mark.{Mark}
use Rattle.floyd_goal_trees.specs.declared.context.Mark.TheVariants as m
use Rattle.floyd_goal_trees.specs.declared.goal.Goal.{Goal}
use Rattle.floyd_goal_trees.specs.declared.goal.Goal.TheVariants as g
use Rattle.floyd_goal_trees.specs.declared.goal.Pure.{Pure}
use Rattle.floyd_goal_forms.specs.Goals.{IsWellFormed}
use Rattle.floyd_goal_formulas.specs.Fits.{Fits}
use Rattle.floyd_goal_truth.specs.Scopes.{AllFit, scope_of}
use Rattle.floyd_goal_meaning.specs.GoalHolds.{HoldsFor}
use Rattle.floyd_pure_formulas.specs.Holds.{ArgsFit}
use Rattle.floyd_pure_formulas.specs.HypothesisCases.{HypothesisCases}
use Rattle.floyd_pure_formulas.specs.Rows.{Row, WhenNamed}

-- A goal of any kind, whose hypotheses and what the command is given are well formed, holds for n steps where the goals of
-- the row do.
abbrev pub IsSound : Row → Type 0
IsSound Row =
    (defs : Defs) (specs : SpecTable) (n : ℕ) (goal : Goal) (args : Args) (goals : List Goal) →
    AllFit (value_defs defs) (context_of goal) (context_of goal).hypotheses → ArgsFit (value_defs defs) (context_of goal) args → Row goal args (Ok goals) →
    AllByRecursion (HoldsFor defs specs n) goals → HoldsFor defs specs n goal

abbrev pub IsVariableOf : Context → List ℕ → Type 0
IsVariableOf context x = (s : Sort) × (lookup (bytes_eq x) (scope_of context) ≡ Some s)

-- an induction of the mark is on variables of the context
abbrev pub MarkFits : Context → Mark → Type 0
MarkFits context m.Plain = Unit {0}
MarkFits context (m.Start name) = Unit {0}
MarkFits context (m.Induction name place names) = AllByRecursion (IsVariableOf context) names

pub record PureFits (defs : Defs) (pure : Pure) : Type 0 where
  pub hypotheses : AllFit (value_defs defs) pure.context pure.context.hypotheses
  pub target : Fits (value_defs defs) (scope_of pure.context) pure.target
  pub mark : MarkFits pure.context pure.context.mark

-- so of a Pure goal
abbrev pub IsSoundOnPure : Row → Type 0
IsSoundOnPure Row =
    (defs : Defs) (specs : SpecTable) (n : ℕ) (pure : Pure) (args : Args) (goals : List Goal) →
    PureFits defs pure → ArgsFit (value_defs defs) pure.context args → Row (g.Pure pure) args (Ok goals) →
    AllByRecursion (HoldsFor defs specs n) goals → HoldsFor defs specs n (g.Pure pure)

-- so of a goal of any kind that is well formed as a whole
abbrev pub IsSoundOnWellFormed : Row → Type 0
IsSoundOnWellFormed Row =
    (defs : Defs) (specs : SpecTable) (n : ℕ) (goal : Goal) (args : Args) (goals : List Goal) →
    IsWellFormed defs specs goal → ArgsFit (value_defs defs) (context_of goal) args → Row goal args (Ok goals) →
    AllByRecursion (HoldsFor defs specs n) goals → HoldsFor defs specs n goal

-- `destruct` of a hypothesis
abbrev pub HypothesisCasesRow : Row
HypothesisCasesRow goal args answer = WhenNamed goal (HypothesisCases goal args) answer
