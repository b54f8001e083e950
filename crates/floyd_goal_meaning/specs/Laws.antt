-- What holds of goals and of linked programs.
use Rattle.std.specs.Prelude.{◌≡◌, ℕ, List, [], Some, bytes_eq}
use Rattle.std.specs.Map.{lookup}
use Rattle.floyd_clight_machine.specs.Looking.{Ident}
use Rattle.floyd_clight_runs.specs.Calls.{Gives}
use Rattle.floyd_tree_sorts.specs.declared.connectives.FormulaHead.TheVariants.{True, False}
use Rattle.floyd_tree.specs.Formulas.{Says, NoFormula}
use Rattle.floyd_tree.specs.Plain.{Done}
use Rattle.floyd_assert_trees.specs.declared.assertion.Assertion.{Assertion}
use Rattle.floyd_assert_trees.specs.declared.items.Defs.{Defs}
use Rattle.floyd_assert_trees.specs.declared.spec.Funspec.{Funspec}
use Rattle.floyd_assert_trees.specs.declared.spec.SpecTable.{SpecTable}
use Rattle.floyd_assert_meaning.specs.Same.{SameFunspec}
use Rattle.floyd_goal_trees.specs.declared.context.Context.{Context}
use Rattle.floyd_goal_trees.specs.declared.context.Mark.TheVariants.{Plain}
use Rattle.floyd_goal_trees.specs.declared.exits.Exit.TheVariants.{To}
use Rattle.floyd_goal_trees.specs.declared.goal.Goal.TheVariants.{Run, Entail, Pure}
use Rattle.floyd_goal_trees.specs.declared.goal.Run as r
use Rattle.floyd_goal_meaning.specs.declared.linked.Linked.{Linked}
use Rattle.floyd_goal_meaning.specs.declared.linked.LinkedFunction.{LinkedFunction}
use Rattle.floyd_goal_meaning.specs.GoalHolds.{HoldsFor}
use Rattle.floyd_goal_meaning.specs.Links.{Has}
use Rattle.floyd_goal_meaning.specs.Programs.{Further, Places, linked_function}
use Rattle.floyd_goal_meaning.specs.Worlds.{sight, world}

-- `True` holds
abbrev pub TrueHolds : Type 0
TrueHolds = (defs : Defs) (specs : SpecTable) (n : ℕ) (context : Context) → HoldsFor defs specs n (Pure (record { context = context; target = Says True Done NoFormula }))

-- an assertion follows from itself
abbrev pub ItselfFollows : Type 0
ItselfFollows = (defs : Defs) (specs : SpecTable) (n : ℕ) (context : Context) (a : Assertion) → HoldsFor defs specs n (Entail (record { context = context; source = a; target = a }))

-- where nothing is left to run, and the source is what must hold at the end
abbrev pub NothingRuns : Type 0
NothingRuns = (defs : Defs) (specs : SpecTable) (n : ℕ) (run : r.Run) → run.rest ≡ [] → run.exits.normal ≡ To run.source → HoldsFor defs specs n (Run run)

-- each specification that a module sees is the function's own, up to bound names
abbrev pub SeesOwnAlone : Linked → SpecTable → Type 0
SeesOwnAlone L table =
    (f : Ident) (spec : Funspec) → lookup (bytes_eq f) table.functions ≡ Some spec
    → (g : LinkedFunction) × (own : Funspec) × (linked_function L f ≡ Some g) × (g.own ≡ Some own) × SameFunspec own spec

-- Then what the module sees follows from what the functions ask and give of their own.
abbrev pub SightIsGiven : Type 0
SightIsGiven = (L : Linked) (more : List Further) (place : Places) (table : SpecTable) → SeesOwnAlone L table → Gives (world L more place).own (sight L more place table)

-- nothing that a proof could stand on, and a program of nothing, which has it
abbrev pub no_defs : Defs
no_defs = record { structs = []; globals = []; funs = []; preds = []; lemmas = []; proved = []; home = 0 }

abbrev pub no_specs : SpecTable
no_specs = record { functions = []; items = [] }

abbrev pub no_context : Context
no_context = record { variables = []; hypotheses = []; mark = Plain }

abbrev pub no_program : Linked
no_program = record { structs = []; variables = []; functions = []; modules = [] }

abbrev pub AProgramHasIt : Type 0
AProgramHasIt = Has no_program no_defs no_specs

-- `False` does not hold
abbrev pub FalseDoesNotHold : Type 0
FalseDoesNotHold = (n : ℕ) → HoldsFor no_defs no_specs n (Pure (record { context = no_context; target = Says False Done NoFormula })) → ⊥
