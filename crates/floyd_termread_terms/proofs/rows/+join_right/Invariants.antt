use Rattle.std.proofs.Common.{length}
use Rattle.floyd_termread_terms.proofs.rows.+join_right.Given as goal

abbrev pub decreases-join_right : goal.decreases-join_right
decreases-join_right l = length l.operands.now
