-- When the row of a command on goals about memory is sound: a goal holds where all goals do that the row makes of it.
use Rattle.std.specs.Prelude.{◌+◌, ◌<◌, ◌^◌, ℕ, List, [], ◌∷◌, Ok}
use Rattle.std.specs.List.{AllByRecursion}
use Rattle.floyd_ctypes.specs.Structs.{Structs}
use Rattle.floyd_tree.specs.Plain.{Plain, plains, sizes}
use Rattle.floyd_assert_trees.specs.declared.assertion.Assertion.{Assertion}
use Rattle.floyd_assert_trees.specs.declared.binder.Binder.{Binder}
use Rattle.floyd_assert_trees.specs.declared.items.Defs.{Defs}
use Rattle.floyd_assert_trees.specs.declared.spec.SpecTable.{SpecTable}
use Rattle.floyd_assert_laws.specs.InChanged.{body_nodes}
use Rattle.floyd_goal_trees.specs.Contexts.{scope_of}
use Rattle.floyd_goal_trees.specs.declared.args.Args.{Args}
use Rattle.floyd_goal_trees.specs.declared.context.Context.{Context}
use Rattle.floyd_goal_trees.specs.declared.goal.Goal.{Goal}
use Rattle.floyd_goal_trees.specs.declared.goal.Goal.TheVariants.{Run, Entail, Pure}
use Rattle.floyd_goal_forms.specs.Goals.{IsWellFormed}
use Rattle.floyd_goal_forms.specs.Terms.{TermFits}
use Rattle.floyd_goal_meaning.specs.GoalHolds.{HoldsFor}
use Rattle.floyd_goal_parts.specs.Rows.{Answer}
use Rattle.floyd_entail_cancel.specs.Cancel as cancel

-- a row that looks at the structs that a module sees
abbrev pub Row : Type 1
Row = Structs → Goal → Args → Answer → Type 0

-- A well-formed goal, for which what the command is given is as it asks, holds for n steps where the goals of the row do.
abbrev pub IsSoundWhere : (Defs → Goal → Args → Type 0) → Row → Type 0
IsSoundWhere Asks Row =
    (defs : Defs) (specs : SpecTable) (n : ℕ) (goal : Goal) (args : Args) (goals : List Goal) →
    IsWellFormed defs specs goal → Asks defs goal args → Row defs.structs goal args (Ok goals) →
    AllByRecursion (HoldsFor defs specs n) goals → HoldsFor defs specs n goal

-- whatever the command is given
abbrev pub IsSound : Row → Type 0
IsSound Row = IsSoundWhere (λ defs goal args. Unit {0}) Row

-- `cancel` takes no arguments
abbrev pub CancelRow : Goal → Args → Answer → Type 0
CancelRow goal args answer = cancel.Row goal answer

-- fewer than 2 ^ 63 nodes stand in the source
abbrev pub HasFewNodes : Defs → Goal → Args → Type 0
HasFewNodes defs (Run run) args = body_nodes run.source < 2 ^ 63
HasFewNodes defs (Entail entail) args = body_nodes entail.source < 2 ^ 63
HasFewNodes defs (Pure pure) args = Unit {0}

-- the first of the terms is a well-formed one of the sort of the first existential, and fewer than 2 ^ 63 nodes stand in
-- the terms and the target
abbrev pub IsOfFirst : Defs → Context → Assertion → List Binder → List Plain → Type 0
IsOfFirst defs context target [] terms = Unit {0}
IsOfFirst defs context target (b ∷ more) [] = Unit {0}
IsOfFirst defs context target (b ∷ more) (t ∷ terms) = TermFits defs (scope_of context) b.sort t × (sizes (plains (t ∷ terms)) + body_nodes target < 2 ^ 63)

abbrev pub IsWitness : Defs → Goal → Args → Type 0
IsWitness defs (Run run) args = Unit {0}
IsWitness defs (Entail entail) args = IsOfFirst defs entail.context entail.target entail.target.existentials args.terms
IsWitness defs (Pure pure) args = Unit {0}
