use Rattle.std.proofs.Common.{◌≡◌, length}
use Rattle.floyd_link_mentions.specs.MentionClauses.{with_expressions}
use Rattle.floyd_link_mentions.proofs.expressions.put_expressions.Given as goal

abbrev pub decreases-expressions : goal.decreases-expressions
decreases-expressions l = length l.rest

abbrev pub invariant-expressions : goal.invariant-expressions
invariant-expressions l = with_expressions l.rest l.names ≡ with_expressions l.all l.initial.names
