-- What a state that stands in the source of a goal gives to evaluation.
use Rattle.std.specs.Prelude.{◌≡◌, List, [], ◌∷◌}
use Rattle.std.specs.List.{AllByRecursion}
use Rattle.floyd_int.specs.declared.kinds.Value.{Value}
use Rattle.floyd_clight.specs.declared.syntax.Stmt.{Stmt}
use Rattle.floyd_clight_heap.specs.Heaplet.{Heaplet}
use Rattle.floyd_clight_machine.specs.Machine.{Act, LocalBlock}
use Rattle.floyd_clight_runs.specs.Seen.{seen}
use Rattle.floyd_clight_typing.specs.Bodies.{names_in}
use Rattle.floyd_clight_typing.specs.Statements.{AreExpressionsTyped}
use Rattle.floyd_tree.specs.Plain.{Plain}
use Rattle.floyd_tree_values.specs.BuiltIns.{Env}
use Rattle.floyd_tree_values.specs.Data.{Val}
use Rattle.floyd_tree_values.specs.Means.{Means}
use Rattle.floyd_tree_values.specs.Rules.{Scope}
use Rattle.floyd_assert_trees.specs.declared.assertion.Assertion.{Assertion}
use Rattle.floyd_assert_trees.specs.declared.items.Defs.{Defs}
use Rattle.floyd_assert_trees.specs.declared.sep.Sep.TheVariants.{Anything, Valid}
use Rattle.floyd_assert_trees.specs.declared.spec.SpecTable.{SpecTable}
use Rattle.floyd_assert_meaning.specs.Parts.{PartsHold}
use Rattle.floyd_goal_trees.specs.declared.goal.Run as r
use Rattle.floyd_goal_meaning.specs.declared.linked.Linked.{Linked}
use Rattle.floyd_goal_meaning.specs.GoalHolds.{Given, Stands}
use Rattle.floyd_goal_meaning.specs.Links.{Has}
use Rattle.floyd_goal_meaning.specs.Programs.{Further, Places, defs_of, program, setting}
use Rattle.floyd_goal_forms.specs.Assertions.{AssertionFits}
use Rattle.floyd_goal_forms.specs.Goals.{RunFits}
use Rattle.floyd_symexpr_pointer_laws.specs.Laws.{IsValidIn}
use Rattle.floyd_symexpr_soundness.specs.Laws.{AreLaidOut, Meets, PartIsSorted}

-- An activation that stands in the source of a well formed goal, which has no existentials: what is seen of the heaplet meets
-- the source, with the names that the goal's function may mention.
abbrev pub RunsMeetTheirSource : Type 0
RunsMeetTheirSource =
    (L : Linked) (more : List Further) (place : Places) (defs : Defs) (specs : SpecTable) (run : r.Run) (env : Env) (act : Act) (h : Heaplet) →
    Has L defs specs → AreLaidOut L.structs → Given (setting L more place) defs run.context env → (fits : RunFits defs specs run) → run.source.existentials ≡ [] →
    Stands (setting L more place) env run.exits.ret run.source act h →
    Meets (setting L more place) env (seen (program L more place) act.blocks h) act.temps run.source h (names_in fits.statements.file fits.statements.function)

-- the value of each part has the sort of its type
abbrev pub PartsAreSorted : Type 0
PartsAreSorted = (defs : Defs) (specs : SpecTable) (scope : Scope) (a : Assertion) → AssertionFits defs specs scope a → AllByRecursion (PartIsSorted defs.structs) a.parts

-- an address that is valid by a part of a heaplet is seen to be valid
abbrev pub ValidPartsAreSeen : Type 0
ValidPartsAreSeen =
    (L : Linked) (more : List Further) (place : Places) (env : Env) (blocks : List LocalBlock) (t : Plain) (h : Heaplet) →
    PartsHold (setting L more place) env (Valid t ∷ Anything ∷ []) h → (v : Value) × Means (defs_of L) env t (Val v) × IsValidIn (seen (program L more place) blocks h) v

-- the next statement has the types that its function's names give
abbrev pub StatementsAreTyped : Type 0
StatementsAreTyped =
    (defs : Defs) (specs : SpecTable) (run : r.Run) (fits : RunFits defs specs run) (s : Stmt) (rest : List Stmt) → run.rest ≡ s ∷ rest →
    AreExpressionsTyped defs.structs (names_in fits.statements.file fits.statements.function) fits.statements.function.result s
