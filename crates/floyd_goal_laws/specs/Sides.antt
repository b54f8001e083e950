-- Side formulas in every program, and what is well formed there.
use Rattle.std.specs.Prelude.{ℕ, List, Option, Some, None, Ok}
use Rattle.floyd_tree.specs.Formulas.{PlainFormula}
use Rattle.floyd_tree.specs.Plain.{Plain}
use Rattle.floyd_tree_values.specs.BuiltIns.{Env}
use Rattle.floyd_tree_values.specs.Data.{Datum}
use Rattle.floyd_tree_values.specs.Means.{Means}
use Rattle.floyd_tree_values.specs.Rules.{Scope}
use Rattle.floyd_truth.specs.Truth.{AllTrue}
use Rattle.floyd_assert_trees.specs.declared.items.Defs.{Defs}
use Rattle.floyd_assert_trees.specs.declared.spec.SpecTable.{SpecTable}
use Rattle.floyd_assert_trees.specs.Meanings.{value_defs}
use Rattle.floyd_goal.specs.declared.side_goals.Sides.{Sides}
use Rattle.floyd_goal.specs.Sides.{Side}
use Rattle.floyd_goal_formulas.specs.Fits.{Fits}
use Rattle.floyd_goal_truth.specs.Scopes.{AllFit}
use Rattle.floyd_goal_trees.specs.declared.context.Context.{Context}
use Rattle.floyd_goal_trees.specs.declared.goal.Goal.TheVariants as g
use Rattle.floyd_goal_trees.specs.declared.goal.Pure.{Pure}
use Rattle.floyd_goal_meaning.specs.declared.linked.Linked.{Linked}
use Rattle.floyd_goal_meaning.specs.GoalHolds.{HoldsFor}
use Rattle.floyd_goal_meaning.specs.Links.{Has}
use Rattle.floyd_goal_meaning.specs.Programs.{defs_of}
use Rattle.floyd_goal_laws.specs.Following.{Throughout}

abbrev pub HoldsIfAny : Defs → SpecTable → ℕ → Option Pure → Type 0
HoldsIfAny defs specs n None = Unit {0}
HoldsIfAny defs specs n (Some pure) = HoldsFor defs specs n (g.Pure pure)

-- Where the goal that side formulas make holds, or they make none, all of them are true in each program under each
-- environment that is given for the context. So are those that are kept.
abbrev pub SidesAreTrue : Type 0
SidesAreTrue =
    (defs : Defs) (specs : SpecTable) (n : ℕ) (context : Context) (fs : List PlainFormula) (sides : Sides) → AllFit (value_defs defs) context fs → Side context fs (Ok sides) → HoldsIfAny defs specs n sides.goal →
    Throughout defs specs context (λ S env. AllTrue S.defs S.has_spec env fs × AllTrue S.defs S.has_spec env sides.kept)

-- What is well formed over the structs and FUNs that a module sees is so over those of the program.
abbrev pub FormulasStayWellFormed : Type 0
FormulasStayWellFormed = (L : Linked) (defs : Defs) (specs : SpecTable) (scope : Scope) (f : PlainFormula) → Has L defs specs → Fits (value_defs defs) scope f → Fits (defs_of L) scope f

-- And a term keeps its value.
abbrev pub ValuesStay : Type 0
ValuesStay = (L : Linked) (defs : Defs) (specs : SpecTable) (env : Env) (t : Plain) (d : Datum) → Has L defs specs → Means (value_defs defs) env t d → Means (defs_of L) env t d
