-- When `forward` is sound on an assignment to memory.
use Rattle.floyd_clight.specs.declared.syntax.Stmt.{Stmt, Assign}

abbrev pub IsAssignment : Stmt → Type 0
IsAssignment (Assign p e) = Unit {0}
IsAssignment s = ⊥
