-- What is free in well-formed goals.
use Rattle.std.specs.Prelude.{◌≡◌, ℕ, true, false, ◌||◌, List, map}
use Rattle.floyd_tree_values.specs.Rules.{AreDistinct}
use Rattle.floyd_assert_trees.specs.declared.binder.Binder.{Binder}
use Rattle.floyd_assert_trees.specs.declared.items.Defs.{Defs}
use Rattle.floyd_assert_trees.specs.declared.spec.SpecTable.{SpecTable}
use Rattle.floyd_assert_changes.specs.Changed.{has_name}
use Rattle.floyd_goal_forms.specs.Goals.{IsWellFormed}
use Rattle.floyd_goal_names.specs.Free.{AreNew, context_mentions, goal_mentions}
use Rattle.floyd_goal_trees.specs.Contexts.{context_of}
use Rattle.floyd_goal_trees.specs.declared.goal.Goal.{Goal}

-- in the goal or in the hypotheses and the mark of its context
abbrev pub FreeNamesAreVariables : Type 0
FreeNamesAreVariables =
    (defs : Defs) (specs : SpecTable) (goal : Goal) (v : List ℕ) → IsWellFormed defs specs goal → (context_mentions (context_of goal) v || goal_mentions goal v) ≡ true →
    has_name v (context_of goal).variables ≡ true

abbrev pub OtherNamesAreNew : Type 0
OtherNamesAreNew =
    (defs : Defs) (specs : SpecTable) (goal : Goal) (names : List Binder) → IsWellFormed defs specs goal → AreDistinct (map (λ (b : Binder). b.name) names) →
    ((v : List ℕ) → has_name v names ≡ true → has_name v (context_of goal).variables ≡ false) → AreNew names goal
