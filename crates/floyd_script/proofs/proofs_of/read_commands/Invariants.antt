use Rattle.std.proofs.Common.{length}
use Rattle.floyd_grammar.proofs.Turns.{Turning}
use Rattle.floyd_script.specs.ScriptClauses as r
use Rattle.floyd_script.proofs.proofs_of.read_commands.Given as goal

abbrev pub invariant-each : goal.invariant-each
invariant-each l = Turning (λ _. r.begins_command) r.more_commands (λ _. r.command l.bytes l.tokens) l.all l.reader (r.commands l.bytes l.tokens l.fn.reader)

abbrev pub decreases-each : goal.decreases-each
decreases-each l = length l.reader
