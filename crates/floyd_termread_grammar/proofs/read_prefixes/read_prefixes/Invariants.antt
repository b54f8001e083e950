use Rattle.std.proofs.Common.{length}
use Rattle.floyd_grammar.proofs.Turns.{Turning}
use Rattle.floyd_termread_grammar.specs.Terms.{plus_prefix, begins_prefix}
use Rattle.floyd_termread_grammar.specs.TermClauses.{nested, one_prefix, prefixes}
use Rattle.floyd_termread_grammar.proofs.read_prefixes.read_prefixes.Given as goal

abbrev pub invariant-each : goal.invariant-each
invariant-each l = Turning begins_prefix plus_prefix (one_prefix l.room (nested l.room)) l.all l.reader (prefixes l.room (nested l.room) l.fn.want l.count l.fn.reader)

abbrev pub decreases-each : goal.decreases-each
decreases-each l = length l.reader
