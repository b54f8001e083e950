use Rattle.std.proofs.Common.{◌+◌, ◌*◌, length}
use Rattle.floyd_grammar.proofs.Turns.{Turning}
use Rattle.floyd_cparse.specs.Units.{is_separator, plus_value}
use Rattle.floyd_cparse.specs.UnitClauses.{inits, value_list, next_value}
use Rattle.floyd_cparse.proofs.read_initialisers.+initialisers.Given as goal

abbrev pub decreases-read_init : goal.decreases-read_init
decreases-read_init l = 4 * l.room

abbrev pub decreases-read_next_value : goal.decreases-read_next_value
decreases-read_next_value l = 4 * l.room + 1

abbrev pub decreases-read_value_list : goal.decreases-read_value_list
decreases-read_value_list l = 4 * l.room + 2

abbrev pub decreases-read_values : goal.decreases-read_values
decreases-read_values l = 4 * l.room + 3

abbrev pub invariant-read_value_list-each : goal.invariant-read_value_list-each
invariant-read_value_list-each l =
    Turning (λ _. is_separator) plus_value (λ _. next_value l.types l.room (inits l.types l.room)) (record { items = l.items; end = l.end }) l.reader (value_list l.types l.room (inits l.types l.room) l.fn.reader)

abbrev pub decreases-read_value_list-each : goal.decreases-read_value_list-each
decreases-read_value_list-each l = length l.reader
