use Rattle.std.proofs.Common.{length}
use Rattle.floyd_grammar.proofs.Turns.{Turning}
use Rattle.floyd_script.specs.ScriptClauses as r
use Rattle.floyd_script.proofs.proofs_of.read_proofs.Given as goal

abbrev pub invariant-each : goal.invariant-each
invariant-each l = Turning (λ _. r.begins_proof) r.more_proofs (λ _. r.proof l.bytes l.tokens) l.all l.reader (r.script l.bytes l.tokens l.fn.reader)

abbrev pub decreases-each : goal.decreases-each
decreases-each l = length l.reader
