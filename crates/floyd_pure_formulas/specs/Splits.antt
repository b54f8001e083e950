-- That cases are all: under all data under which the hypotheses of a goal are true, some case is so.
use Rattle.std.specs.Prelude.{◌≡◌, ◌⊎◌, false, List, [], ◌∷◌, map, Ok}
use Rattle.floyd_tree_values.specs.BuiltIns.{Env}
use Rattle.floyd_tree_values.specs.Data.{Datum, HasSort}
use Rattle.floyd_tree_values.specs.Means.{Defs}
use Rattle.floyd_truth.specs.Truth.{AllTrue, Truth, with_datum}
use Rattle.floyd_assert_changes.specs.Changed.{has_name}
use Rattle.floyd_goal_trees.specs.declared.args.Args.{Args}
use Rattle.floyd_goal_trees.specs.declared.goal.Goal.{Goal}
use Rattle.floyd_goal.specs.Sides.{context_of}
use Rattle.floyd_goal_truth.specs.Scopes.{AllFit}
use Rattle.floyd_goal_truth.specs.Truths.{Under}
use Rattle.floyd_pure_formulas.specs.Holds.{Specs}
use Rattle.floyd_pure_formulas.specs.HypothesisCases.{Case, Known, Opened, HypothesisCases, in_case}

-- what a case has more is true, for some datum for its variable
abbrev pub IsSo : Defs → Specs → Env → Case → Type 0
IsSo defs specs env (Known fs) = AllTrue defs specs env fs
IsSo defs specs env (Opened b f) = (d : Datum) × HasSort b.sort d × Truth defs specs (with_datum env b.name d) f

abbrev pub SomeIsSo : Defs → Specs → Env → List Case → Type 0
SomeIsSo defs specs env [] = ⊥
SomeIsSo defs specs env (c ∷ cases) = IsSo defs specs env c ⊎ SomeIsSo defs specs env cases

-- the variable of a case, if it has one, is new
abbrev pub AllNew : Goal → List Case → Type 0
AllNew goal [] = Unit {0}
AllNew goal (Known fs ∷ cases) = AllNew goal cases
AllNew goal (Opened b f ∷ cases) = (has_name b.name (context_of goal).variables ≡ false) × AllNew goal cases

-- the goals are the goal in each of some cases, which are all
pub record Splits (defs : Defs) (specs : Specs) (goal : Goal) (goals : List Goal) : Type 0 where
  pub cases : List Case
  pub made : goals ≡ map (in_case goal) cases
  pub new : AllNew goal cases
  pub hold : Under defs specs (context_of goal) (λ env. SomeIsSo defs specs env cases)

-- So it is of the cases of a hypothesis of a goal of any kind, whose hypotheses are well formed.
abbrev pub HypothesisSplits : Type 0
HypothesisSplits =
    (defs : Defs) (specs : Specs) (goal : Goal) (args : Args) (goals : List Goal) → AllFit defs (context_of goal) (context_of goal).hypotheses → HypothesisCases goal args (Ok goals) → Splits defs specs goal goals
