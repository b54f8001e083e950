-- The instance of a quantified formula at the term that a command is given.
use Rattle.std.specs.Prelude.{ℕ, ◌+◌, Bool, false, if◌then◌else◌, List, [], ◌∷◌, length, Option, Some, None, Result, Ok, Err}
use Rattle.floyd_text.specs.declared.code.Code.TheVariants as c
use Rattle.floyd_text.specs.declared.refusal.No.{No}
use Rattle.floyd_text.specs.declared.refusal.Shown.TheVariants.{Count}
use Rattle.floyd_tree_sorts.specs.declared.sorts.Sort.{Sort}
use Rattle.floyd_tree_sorts.specs.Sorts.{same_sort}
use Rattle.floyd_tree.specs.Formulas.{PlainFormula}
use Rattle.floyd_tree.specs.Plain.{Plain}
use Rattle.floyd_tree.specs.WellSorted.{sort_of}
use Rattle.floyd_tree_values.specs.Means.{Defs}
use Rattle.floyd_assert_changes.specs.Substituted.{formula_with}
use Rattle.floyd_goal_trees.specs.declared.goal.Goal.{Goal}
use Rattle.floyd_goal_trees.specs.declared.goal.Goal.TheVariants as g
use Rattle.floyd_goal.specs.Goals.{refusal}
use Rattle.floyd_goal_formulas.specs.Fits.{Fits}
use Rattle.floyd_goal_truth.specs.Scopes.{scope_of}
use Rattle.floyd_pure_formulas.specs.Rows.{Answer}

abbrev pub is_sort : Sort → Option Sort → Bool
is_sort s None = false
is_sort s (Some r) = same_sort r s

-- a term for x, which has sort s, in the body
abbrev pub instance_at : List ℕ → Sort → PlainFormula → Plain → Result PlainFormula No
instance_at x s body t = if is_sort s (sort_of t) then formula_with ((x, t) ∷ []) body else Err (refusal c.IllSorted)

-- another number of terms than one, which a script cannot give
abbrev pub wrong_count : ℕ → No
wrong_count n = record { code = c.WithMismatch; shown = Count n }

abbrev pub instance : List ℕ → Sort → PlainFormula → List Plain → Result PlainFormula No
instance x s body [] = Err (wrong_count 0)
instance x s body (t ∷ []) = instance_at x s body t
instance x s body (t ∷ u ∷ more) = Err (wrong_count (length more + 2))

-- the goal that is made of a formula, where there is one
abbrev pub goal_by : (PlainFormula → Goal) → Result PlainFormula No → Answer
goal_by goal_of (Ok f) = Ok (goal_of f ∷ [])
goal_by goal_of (Err why) = Err why

-- the target of a Pure goal is well formed
abbrev pub IsFitIfPure : Defs → Goal → Type 0
IsFitIfPure defs (g.Run run) = Unit {0}
IsFitIfPure defs (g.Entail entail) = Unit {0}
IsFitIfPure defs (g.Pure pure) = Fits defs (scope_of pure.context) pure.target

abbrev pub IsPure : Goal → Type 0
IsPure (g.Run run) = ⊥
IsPure (g.Entail entail) = ⊥
IsPure (g.Pure pure) = Unit {0}
