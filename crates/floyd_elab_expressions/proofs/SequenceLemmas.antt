-- Sequences by their lengths.
use Rattle.std.proofs.Common.{◌≡◌, ◌<◌, ◌≤◌, List, [], ◌∷◌, ◌++◌, length, refl, arith}
use Rattle.floyd_clight.specs.declared.syntax.Stmt.{Stmt, Seq}
use Rattle.floyd_elab_expressions.specs.Clight.{sequence}

pub sequence_long : (l : List Stmt) → 1 < length l → Seq l ≡ sequence l
sequence_long [] long = absurd (omega arith)
sequence_long (s ∷ []) long = absurd (omega arith)
sequence_long (s ∷ t ∷ more) long = refl

pub sequence_last : (front : List Stmt) (s : Stmt) → length (front ++ s ∷ []) ≤ 1 → s ≡ sequence (front ++ s ∷ [])
sequence_last [] s short = refl
sequence_last (a ∷ []) s short = absurd (omega arith)
sequence_last (a ∷ b ∷ more) s short = absurd (omega arith)
