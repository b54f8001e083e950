use Rattle.std.proofs.Common.{◌≡◌, drop}
use Rattle.floyd_tree_sorts.specs.Prints.{bytes_print, name_print}
use Rattle.floyd_tree_sorts.proofs.prints.name_print.Given as goal

abbrev pub invariant-loop-byte : goal.invariant-loop-byte
invariant-loop-byte l = bytes_print l.print (drop l.byte-index l.byte-items) ≡ name_print l.name
