-- A statement without its sequences and skips.
use Rattle.std.specs.Prelude.{List, [], ◌∷◌, ◌++◌}
use Rattle.floyd_clight.specs.declared.syntax.Stmt.{Stmt, Skip, Seq', Row_of-Stmt, end_of-Stmt, more_of-Stmt}

abbrev mutual
  pub flat : Stmt → List Stmt
  flat Skip = []
  flat (Seq' shape all) = flats all
  flat s = s ∷ []

  pub flats : {n : _} → Row_of-Stmt n → List Stmt
  flats end_of-Stmt = []
  flats (more_of-Stmt s rest) = flat s ++ flats rest
