-- The word of a sequence.
use Rattle.std.proofs.Common.{◌≡◌, List, refl, ap, ◌∙◌}
use Rattle.floyd_clight.specs.declared.syntax.Stmt.{Stmt, Seq, Row_of-Stmt, end_of-Stmt, more_of-Stmt, items-the_row-Stmt, items_hidden-the_row-Stmt-0}
use Rattle.floyd_clight.specs.declared.syntax.Stmt.TheBlock.{hidden-the_row-Stmt-0}
use Rattle.floyd_clight.specs.Words.{either, first_word, first_in, first_of}

first_items : {n : _} (row : Row_of-Stmt n) → first_in row ≡ first_of (items-the_row-Stmt n row)
first_items end_of-Stmt = refl
first_items (more_of-Stmt s rest) = ap (either (first_word s)) (first_items rest)

pub first_seq : (parts : List Stmt) → first_word (Seq parts) ≡ first_of parts
first_seq parts = first_items (hidden-the_row-Stmt-0 parts) ∙ ap first_of (items_hidden-the_row-Stmt-0 parts)
