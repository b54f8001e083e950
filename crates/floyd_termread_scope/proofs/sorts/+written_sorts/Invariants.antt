use Rattle.std.proofs.Common.{◌≡◌, drop, reverse}
use Rattle.floyd_termread_scope.specs.WrittenSorts.{sorts_from}
use Rattle.floyd_termread_scope.proofs.sorts.+written_sorts.Given as goal

abbrev pub invariant-sort_in-items : goal.invariant-sort_in-items
invariant-sort_in-items l = reverse l.stack ≡ sorts_from (drop l.i l.row)
