use Rattle.std.proofs.Common.{◌+◌, ◌*◌, true, length}
use Rattle.floyd_grammar.proofs.Turns.{Turning}
use Rattle.floyd_script_tokens.specs.SightClauses.{goes_on}
use Rattle.floyd_script_arguments.specs.Grammar.{both}
use Rattle.floyd_script_arguments.specs.ArgumentClauses.{contents, item_in}
use Rattle.floyd_script_arguments.proofs.phrases.+contents.Given as goal

abbrev pub decreases-read_bracketed : goal.decreases-read_bracketed
decreases-read_bracketed l = 3 * l.room + 2

abbrev pub decreases-read_contents : goal.decreases-read_contents
decreases-read_contents l = 3 * l.room + 1

abbrev pub decreases-read_item : goal.decreases-read_item
decreases-read_item l = 3 * l.room

abbrev pub invariant-read_contents-each : goal.invariant-read_contents-each
invariant-read_contents-each l = Turning (λ _. goes_on true) both (λ _. item_in l.room) tt l.reader (contents l.room l.fn.reader)

abbrev pub decreases-read_contents-each : goal.decreases-read_contents-each
decreases-read_contents-each l = length l.reader
