use Rattle.std.proofs.Common.{◌≡◌, ◌<◌, List, [], ◌∷◌, drop, length, Some, None, sym, subst, arith}
use Rattle.std.specs.Prelude.{slice_get}
use Rattle.floyd_clight.specs.declared.syntax.Stmt.{Stmt}
use Rattle.tests_goals.proofs.same.same_rest.Goals as goal

-- behind the first one fewer are left
shorter : (left : List Stmt) (s : Stmt) → Some s ≡ slice_get left 0 → length (drop 1 left) < length left
shorter [] s e = let wrong : Some s ≡ None = e in cc
shorter (x ∷ left) s e = omega arith

pub statements-smaller : goal.statements-smaller
statements-smaller c = subst (λ (left : List Stmt). length left < length c.statements.left) (sym c.advance.ensures) (shorter c.statements.left c.in-Some.s.now c.in-Some.ensures)
