use Rattle.std.proofs.Common.{◌+◌, ◌*◌, length}
use Rattle.floyd_lex.specs.Token.{Token}
use Rattle.floyd_grammar.proofs.Turns.{Turning}
use Rattle.floyd_cparse_tokens.specs.Tokens.{is_there}
use Rattle.floyd_termread_grammar.specs.declared.values.Contents.{Contents}
use Rattle.floyd_termread_grammar.specs.Terms.{plus_link, plus_item, more_items, step_at}
use Rattle.floyd_termread_grammar.specs.TermClauses.{nested, begins_link, one_link, links, next_item, contents, one_step, step_list}
use Rattle.floyd_termread_grammar.proofs.read_terms.+terms.Given as goal

abbrev pub decreases-read_nested : goal.decreases-read_nested
decreases-read_nested l = 30 * l.room

abbrev pub decreases-read_inside : goal.decreases-read_inside
decreases-read_inside l = 30 * l.room + 25

abbrev pub decreases-read_chain : goal.decreases-read_chain
decreases-read_chain l = 30 * l.room + 20

abbrev pub decreases-read_links : goal.decreases-read_links
decreases-read_links l = 30 * l.room + 18

abbrev pub decreases-read_link : goal.decreases-read_link
decreases-read_link l = 30 * l.room + 17

abbrev pub decreases-read_operand : goal.decreases-read_operand
decreases-read_operand l = 30 * l.room + 16

abbrev pub decreases-read_atom : goal.decreases-read_atom
decreases-read_atom l = 30 * l.room + 15

abbrev pub decreases-read_name : goal.decreases-read_name
decreases-read_name l = 30 * l.room + 14

abbrev pub decreases-read_form : goal.decreases-read_form
decreases-read_form l = 30 * l.room + 14

abbrev pub decreases-read_bracket : goal.decreases-read_bracket
decreases-read_bracket l = 30 * l.room + 13

abbrev pub decreases-read_contents : goal.decreases-read_contents
decreases-read_contents l = 30 * l.room + 12

abbrev pub decreases-read_item : goal.decreases-read_item
decreases-read_item l = 30 * l.room + 11

abbrev pub decreases-read_steps : goal.decreases-read_steps
decreases-read_steps l = 30 * l.room + 18

abbrev pub decreases-read_step_list : goal.decreases-read_step_list
decreases-read_step_list l = 30 * l.room + 17

abbrev pub decreases-read_step : goal.decreases-read_step
decreases-read_step l = 30 * l.room + 16

abbrev pub invariant-read_links-each : goal.invariant-read_links-each
invariant-read_links-each l = Turning begins_link plus_link (one_link l.room (nested l.room)) l.chain l.reader (links l.room (nested l.room) l.fn.want l.count l.fn.reader)

abbrev pub decreases-read_links-each : goal.decreases-read_links-each
decreases-read_links-each l = length l.reader

abbrev pub invariant-read_contents-each : goal.invariant-read_contents-each
invariant-read_contents-each l = Turning (more_items l.form) plus_item (next_item l.room (nested l.room) l.form) l.all l.reader (contents l.room (nested l.room) l.form l.count l.fn.reader)

abbrev pub decreases-read_contents-each : goal.decreases-read_contents-each
decreases-read_contents-each l = length l.reader

abbrev pub invariant-read_step_list-each : goal.invariant-read_step_list-each
invariant-read_step_list-each l = Turning (λ (all : Contents) (t : Token). is_there (step_at t)) plus_item (one_step l.room (nested l.room)) l.all l.reader (step_list l.room (nested l.room) l.count l.fn.reader)

abbrev pub decreases-read_step_list-each : goal.decreases-read_step_list-each
decreases-read_step_list-each l = length l.reader
