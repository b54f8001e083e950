-- When `forward` is sound on returns and at a function's end.
use Rattle.std.specs.Prelude.{◌≡◌, ℕ, ◌+◌, ◌<◌, ◌^◌, true, List, [], ◌∷◌, Option, Some, None, Ok}
use Rattle.std.specs.List.{AllByRecursion}
use Rattle.floyd_ctypes.specs.Structs.{Structs}
use Rattle.floyd_clight.specs.declared.syntax.Expr.{Expr}
use Rattle.floyd_clight.specs.declared.syntax.Stmt.{Stmt, Return}
use Rattle.floyd_tree_sorts.specs.Rows.{is_scalar}
use Rattle.floyd_tree.specs.Plain.{size}
use Rattle.floyd_assert_cells.specs.Types.{shape_of}
use Rattle.floyd_assert_trees.specs.declared.items.Defs.{Defs}
use Rattle.floyd_assert_trees.specs.declared.spec.SpecTable.{SpecTable}
use Rattle.floyd_assert_laws.specs.InChanged.{body_nodes}
use Rattle.floyd_goal_changes.specs.Changed.{covering}
use Rattle.floyd_goal_trees.specs.declared.goal.Goal.{Goal}
use Rattle.floyd_goal_trees.specs.declared.goal.Goal.TheVariants.{Run}
use Rattle.floyd_goal_trees.specs.declared.goal.Run as r
use Rattle.floyd_goal_forms.specs.Goals.{RunFits}
use Rattle.floyd_goal_meaning.specs.GoalHolds.{HoldsFor}
use Rattle.floyd_symexpr.specs.declared.evaluation.Evaluated.{Evaluated}
use Rattle.floyd_symexpr.specs.Expressions.{evaluate}
use Rattle.floyd_symexpr_soundness.specs.Laws.{AreLaidOut}
use Rattle.floyd_forward.specs.Forward.{Row}

-- the result is of a scalar type, and fewer than 2 ^ 63 nodes stand in the term that is returned and in the postcondition
pub record IsPlain (structs : Structs) (run : r.Run) (e : Expr) : Type 0 where
  pub scalar : is_scalar (shape_of run.exits.ret.result) ≡ true
  pub few : (v : Evaluated) → evaluate run.source structs e ≡ Ok v → size v.term + body_nodes (covering run.exits.ret.post run.exits.ret.value) < 2 ^ 63

abbrev pub IsPlainIfAny : Structs → r.Run → Option Expr → Type 0
IsPlainIfAny structs run None = Unit {0}
IsPlainIfAny structs run (Some e) = IsPlain structs run e

-- Structs lie in memory as their fields do, and the goal is well formed, and its next statement is a return. Then it holds for
-- n steps where the goals of the row do.
abbrev pub ReturnsAreSound : Type 0
ReturnsAreSound =
    (defs : Defs) (specs : SpecTable) (n : ℕ) (run : r.Run) (e : Option Expr) (rest : List Stmt) (goals : List Goal) →
    AreLaidOut defs.structs → RunFits defs specs run → run.rest ≡ Return e ∷ rest → IsPlainIfAny defs.structs run e → Row defs.structs (Run run) (Ok goals) →
    AllByRecursion (HoldsFor defs specs n) goals → HoldsFor defs specs n (Run run)

-- and so where no statement is left
abbrev pub EndsAreSound : Type 0
EndsAreSound =
    (defs : Defs) (specs : SpecTable) (n : ℕ) (run : r.Run) (goals : List Goal) →
    RunFits defs specs run → run.rest ≡ [] → Row defs.structs (Run run) (Ok goals) →
    AllByRecursion (HoldsFor defs specs n) goals → HoldsFor defs specs n (Run run)
