-- Parts of a body: what is left of its statements, of a branch, of a part of a loop or of the bodies of a switch.
use Rattle.std.specs.Prelude.{◌≡◌, ◌⊎◌, List, ◌∷◌}
use Rattle.floyd_clight.specs.declared.syntax.Stmt.{Stmt, If', Loop', Switch', Row_of-Case, end_of-Case, more_of-Case, more_of-Stmt, end_of-Stmt}
use Rattle.floyd_clight.specs.Flat.{flat, flats}
use Rattle.floyd_clight_machine.specs.Switching.{bodies}

-- the bodies from one of the cases on
abbrev pub IsFromCase : {n : _} → Row_of-Case n → List Stmt → Type 0
IsFromCase end_of-Case ss = ⊥
IsFromCase (more_of-Case label p s rest) ss = (ss ≡ flats (bodies (more_of-Case label p s rest))) ⊎ IsFromCase rest ss

-- the statements of one of its branches
abbrev pub IsBranch : Stmt → List Stmt → Type 0
IsBranch (If' e p (more_of-Stmt a end_of-Stmt) q (more_of-Stmt b end_of-Stmt)) ss = (ss ≡ flat a) ⊎ (ss ≡ flat b)
IsBranch (Loop' p (more_of-Stmt a end_of-Stmt) q (more_of-Stmt b end_of-Stmt)) ss = (ss ≡ flat a) ⊎ (ss ≡ flat b)
IsBranch (Switch' e shape cases) ss = IsFromCase cases ss
IsBranch s ss = ⊥

-- the first statements are a part of the others
pub data IsPart : List Stmt → List Stmt → Type 0 where
  whole : {ss : List Stmt} → IsPart ss ss
  behind : {ss : List Stmt} {s : Stmt} {rest : List Stmt} → IsPart ss rest → IsPart ss (s ∷ rest)
  inside : {ss : List Stmt} {s : Stmt} {rest branch : List Stmt} → IsBranch s branch → IsPart ss branch → IsPart ss (s ∷ rest)
