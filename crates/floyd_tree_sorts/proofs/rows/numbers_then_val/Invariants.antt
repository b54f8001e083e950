use Rattle.std.proofs.Common.{◌≡◌, drop}
use Rattle.floyd_tree_sorts.specs.Rows.{numbers_then_val}
use Rattle.floyd_tree_sorts.proofs.rows.numbers_then_val.Given as goal

abbrev pub invariant-sorts : goal.invariant-sorts
invariant-sorts l = numbers_then_val (drop l.i l.sorts) ≡ numbers_then_val l.sorts
