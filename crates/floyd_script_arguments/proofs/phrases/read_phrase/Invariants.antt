use Rattle.std.proofs.Common.{false, length}
use Rattle.floyd_grammar.proofs.Turns.{Turning}
use Rattle.floyd_script_tokens.specs.SightClauses.{goes_on}
use Rattle.floyd_script_arguments.specs.Grammar.{both}
use Rattle.floyd_script_arguments.specs.ArgumentClauses as r
use Rattle.floyd_script_arguments.proofs.phrases.read_phrase.Given as goal

abbrev pub invariant-each : goal.invariant-each
invariant-each l = Turning (λ _. goes_on false) both (λ _. r.item_out l.room) tt l.reader (r.phrase l.room l.fn.reader)

abbrev pub decreases-each : goal.decreases-each
decreases-each l = length l.reader
