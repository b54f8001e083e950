-- What terms of constructors are: well sorted and within the limits.
use Rattle.std.specs.Prelude.{◌≡◌, ℕ, true, is_some, List, [], ◌∷◌, length, Some}
use Rattle.floyd_tree_sorts.specs.declared.sorts.Sort.{Sort}
use Rattle.floyd_tree.specs.Made.{fits}
use Rattle.floyd_tree.specs.Plain.{Plain}
use Rattle.floyd_tree.specs.WellSorted.{sort_of}
use Rattle.floyd_truth.specs.Replace.{puts}
use Rattle.floyd_goal_changes.specs.Changed.{GoalSortsAgree}
use Rattle.floyd_goal_trees.specs.declared.goal.Goal.{Goal}
use Rattle.floyd_pure_formulas.specs.declared.constructors.Constructors.{Constructors}
use Rattle.floyd_pure_formulas.specs.VariableCases.{built, zipped}

pub record IsBuilt (t : Plain) : Type 0 where
  pub sorted : is_some (sort_of t) ≡ true
  pub fitting : fits t ≡ true

-- both constructors are of that sort
pub record AreOf (sort : Sort) (c : Constructors) : Type 0 where
  pub empty : sort_of c.empty ≡ Some sort
  pub sorted : (names : List (List ℕ)) → length names ≡ length c.sorts → sort_of (built c (zipped names c.sorts)) ≡ Some sort
  pub fitting : (names : List (List ℕ)) → length names ≡ length c.sorts → fits (built c (zipped names c.sorts)) ≡ true

-- a term of that sort may stand in the place of x everywhere
abbrev pub TakesIn : Goal → List ℕ → Sort → Type 0
TakesIn goal x sort = (t : Plain) → sort_of t ≡ Some sort → GoalSortsAgree (puts ((x, t) ∷ [])) goal
