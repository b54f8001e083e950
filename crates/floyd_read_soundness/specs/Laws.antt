-- When `forward` is sound on a set to what is read from memory.
use Rattle.std.specs.Prelude.{◌≡◌, true}
use Rattle.floyd_clight.specs.declared.syntax.Stmt.{Stmt, Set}
use Rattle.floyd_forward.specs.Set.{is_read}

-- a set to the value of an object in memory
abbrev pub IsSetFromMemory : Stmt → Type 0
IsSetFromMemory (Set x e) = is_read e ≡ true
IsSetFromMemory s = ⊥
