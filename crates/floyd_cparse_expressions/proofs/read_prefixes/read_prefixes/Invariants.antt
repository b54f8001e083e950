use Rattle.std.proofs.Common.{◌+◌, ◌≤◌, length}
use Rattle.floyd_grammar.proofs.Turns.{Turning}
use Rattle.floyd_cparse_expressions.specs.Expressions.{plus_prefix}
use Rattle.floyd_cparse_expressions.specs.ExpressionClauses.{nested, begins_prefix, one_prefix, prefixes}
use Rattle.floyd_cparse_expressions.proofs.read_prefixes.read_prefixes.Given as goal

abbrev pub invariant-each : goal.invariant-each
invariant-each l = record {
  turning : Turning (begins_prefix l.types l.room) plus_prefix (one_prefix l.types l.room (nested l.types l.room)) l.all l.reader (prefixes l.types l.room (nested l.types l.room) l.count l.fn.reader);
  room : length l.all.items ≤ l.room + 1;
}

abbrev pub decreases-each : goal.decreases-each
decreases-each l = length l.reader
