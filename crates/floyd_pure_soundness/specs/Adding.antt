-- Goals of any kind to which hypotheses are added, in every program.
use Rattle.std.specs.Prelude.{ℕ, List}
use Rattle.std.specs.List.{AllByRecursion}
use Rattle.floyd_assert_trees.specs.declared.items.Defs.{Defs}
use Rattle.floyd_assert_trees.specs.declared.spec.SpecTable.{SpecTable}
use Rattle.floyd_assert_meaning.specs.Settings.{Setting}
use Rattle.floyd_goal_trees.specs.Contexts.{context_of}
use Rattle.floyd_goal_trees.specs.declared.goal.Goal.{Goal}
use Rattle.floyd_goal_truth.specs.Truths.{Under}
use Rattle.floyd_goal_meaning.specs.declared.linked.Linked.{Linked}
use Rattle.floyd_goal_meaning.specs.GoalHolds.{HoldsFor}
use Rattle.floyd_goal_meaning.specs.Links.{Has}
use Rattle.floyd_goal_meaning.specs.Programs.{Further, Places, setting}
use Rattle.floyd_pure_formulas.specs.Holds.{Adds}

-- P of what assertions speak about in each program that has what a module's proofs stand on
abbrev pub InPrograms : Defs → SpecTable → (Setting → Type 0) → Type 0
InPrograms defs specs P = (L : Linked) (more : List Further) (place : Places) → Has L defs specs → P (setting L more place)

-- A goal holds where the goals do that ask for some formulas, and the goal with others more, if these are true in each
-- program where those are.
abbrev pub AddingHolds : Type 0
AddingHolds =
    (defs : Defs) (specs : SpecTable) (n : ℕ) (goal : Goal) (goals : List Goal) → InPrograms defs specs (λ S. Adds S.defs S.has_spec goal goals) →
    AllByRecursion (HoldsFor defs specs n) goals → HoldsFor defs specs n goal

-- A goal holds if its hypotheses are true nowhere.
abbrev pub RefutingHolds : Type 0
RefutingHolds =
    (defs : Defs) (specs : SpecTable) (n : ℕ) (goal : Goal) → InPrograms defs specs (λ S. Under S.defs S.has_spec (context_of goal) (λ env. ⊥)) →
    HoldsFor defs specs n goal
