use Rattle.std.proofs.Common.{◌+◌, ◌*◌, ◌≤◌, length}
use Rattle.floyd_grammar.proofs.Turns.{Turning}
use Rattle.floyd_termread_sorts.specs.Sorts.{plus_sort}
use Rattle.floyd_termread_sorts.specs.SortClauses.{sorts, wants_more, sort_item, sort_parts}
use Rattle.floyd_termread_sorts.proofs.read_sorts.+sorts.Given as goal

abbrev pub decreases-read_sort : goal.decreases-read_sort
decreases-read_sort l = 10 * l.room

abbrev pub decreases-read_row : goal.decreases-read_row
decreases-read_row l = 10 * l.room + 9

abbrev pub decreases-read_parts : goal.decreases-read_parts
decreases-read_parts l = 10 * l.room + 8

abbrev pub decreases-read_item : goal.decreases-read_item
decreases-read_item l = 10 * l.room + 6

abbrev pub invariant-read_parts-each : goal.invariant-read_parts-each
invariant-read_parts-each l = record {
  turning : Turning wants_more plus_sort (sort_item l.room (sorts l.room) l.count) l.parts l.reader (sort_parts l.room (sorts l.room) l.count l.fn.reader);
  run : l.parts.run ≤ l.room + 2;
}

abbrev pub decreases-read_parts-each : goal.decreases-read_parts-each
decreases-read_parts-each l = length l.reader
