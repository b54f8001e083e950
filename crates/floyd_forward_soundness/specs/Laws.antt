-- When `forward` is sound.
use Rattle.std.specs.Prelude.{◌≡◌, ℕ, false, List, ◌∷◌, Ok}
use Rattle.std.specs.List.{AllByRecursion}
use Rattle.floyd_clight.specs.declared.syntax.Stmt.{Stmt, Break, Continue, Set}
use Rattle.floyd_assert_trees.specs.declared.items.Defs.{Defs}
use Rattle.floyd_assert_trees.specs.declared.spec.SpecTable.{SpecTable}
use Rattle.floyd_goal_trees.specs.declared.goal.Goal.{Goal}
use Rattle.floyd_goal_trees.specs.declared.goal.Goal.TheVariants.{Run}
use Rattle.floyd_goal_trees.specs.declared.goal.Run as r
use Rattle.floyd_goal_forms.specs.Goals.{RunFits}
use Rattle.floyd_goal_meaning.specs.GoalHolds.{HoldsFor}
use Rattle.floyd_symexpr_soundness.specs.Laws.{AreLaidOut}
use Rattle.floyd_forward.specs.Forward.{Row}
use Rattle.floyd_forward.specs.Set.{is_read}

-- Structs lie in memory as their fields do, and the goal is well formed, and its next statement is one of these. Then it holds
-- for n steps where the goals of the row do.
abbrev pub IsSoundOn : (Stmt → Type 0) → Type 0
IsSoundOn Is =
    (defs : Defs) (specs : SpecTable) (n : ℕ) (run : r.Run) (s : Stmt) (rest : List Stmt) (goals : List Goal) →
    AreLaidOut defs.structs → RunFits defs specs run → run.rest ≡ s ∷ rest → Is s → Row defs.structs (Run run) (Ok goals) →
    AllByRecursion (HoldsFor defs specs n) goals → HoldsFor defs specs n (Run run)

-- a set to the value of an expression that is not read from memory
abbrev pub IsSetToTerm : Stmt → Type 0
IsSetToTerm (Set x e) = is_read e ≡ false
IsSetToTerm s = ⊥

abbrev pub IsLeave : Stmt → Type 0
IsLeave Break = Unit {0}
IsLeave Continue = Unit {0}
IsLeave s = ⊥
