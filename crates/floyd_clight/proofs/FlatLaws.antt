-- The flat list of a sequence.
use Rattle.std.proofs.Common.{◌≡◌, List, ◌++◌, refl, ap, ◌∙◌}
use Rattle.std.specs.Prelude.{flat_map}
use Rattle.floyd_clight.specs.declared.syntax.Stmt.{Stmt, Seq, Row_of-Stmt, end_of-Stmt, more_of-Stmt, items-the_row-Stmt, items_hidden-the_row-Stmt-0}
use Rattle.floyd_clight.specs.declared.syntax.Stmt.TheBlock.{hidden-the_row-Stmt-0}
use Rattle.floyd_clight.specs.Flat.{flat, flats}

pub flats_items : {n : _} (row : Row_of-Stmt n) → flats row ≡ flat_map flat (items-the_row-Stmt n row)
flats_items end_of-Stmt = refl
flats_items (more_of-Stmt s rest) = ap (λ ss. flat s ++ ss) (flats_items rest)

pub flat_seq : (parts : List Stmt) → flat (Seq parts) ≡ flat_map flat parts
flat_seq parts = flats_items (hidden-the_row-Stmt-0 parts) ∙ ap (flat_map flat) (items_hidden-the_row-Stmt-0 parts)
