use Rattle.std.proofs.Common.{◌+◌, ◌*◌, length, pred}
use Rattle.floyd_grammar.proofs.Turns.{Turning}
use Rattle.floyd_cparse_statements.specs.Statements.{plus_item, plus_case, is_first}
use Rattle.floyd_cparse_statements.specs.StatementClauses.{begins_item, begins_case_item, begins_case, next_item, next_case_item, switch_case, all_items, case_items, all_cases, statements}
use Rattle.floyd_cparse_statements.proofs.read_statements.+statements.Given as goal

abbrev pub decreases-read_statement : goal.decreases-read_statement
decreases-read_statement l = 8 * l.room

abbrev pub decreases-read_item : goal.decreases-read_item
decreases-read_item l = 8 * l.room + 1

abbrev pub decreases-read_block_items : goal.decreases-read_block_items
decreases-read_block_items l = 8 * l.room + 2

abbrev pub decreases-read_switch_case : goal.decreases-read_switch_case
decreases-read_switch_case l = 8 * l.room + 1

abbrev pub decreases-read_switch_cases : goal.decreases-read_switch_cases
decreases-read_switch_cases l = 8 * l.room + 2

abbrev pub decreases-read_statement_inside : goal.decreases-read_statement_inside
decreases-read_statement_inside l = 8 * l.room + 4

abbrev pub decreases-read_if : goal.decreases-read_if
decreases-read_if l = 8 * l.room + 1

abbrev pub decreases-read_started : goal.decreases-read_started
decreases-read_started l = 8 * l.room + 3

abbrev pub invariant-read_block_items-each : goal.invariant-read_block_items-each
invariant-read_block_items-each l =
    Turning begins_item plus_item (next_item l.types (pred l.room) (statements l.types l.room)) (record { items = l.items; takes_else = l.takes_else }) l.reader (all_items l.types (pred l.room) (statements l.types l.room) l.fn.reader)

abbrev pub decreases-read_block_items-each : goal.decreases-read_block_items-each
decreases-read_block_items-each l = length l.reader

abbrev pub invariant-read_switch_case-each : goal.invariant-read_switch_case-each
invariant-read_switch_case-each l =
    Turning begins_case_item plus_item (next_case_item l.types (statements l.types l.room)) (record { items = l.items; takes_else = l.takes_else }) l.reader (case_items l.types (statements l.types l.room) l.initial.reader)

abbrev pub decreases-read_switch_case-each : goal.decreases-read_switch_case-each
decreases-read_switch_case-each l = length l.reader

abbrev pub invariant-read_switch_cases-each : goal.invariant-read_switch_cases-each
invariant-read_switch_cases-each l =
    Turning begins_case plus_case (λ all. switch_case l.types (pred l.room) (statements l.types l.room) (is_first all)) l.cases l.reader (all_cases l.types (pred l.room) (statements l.types l.room) l.fn.reader)

abbrev pub decreases-read_switch_cases-each : goal.decreases-read_switch_cases-each
decreases-read_switch_cases-each l = length l.reader
