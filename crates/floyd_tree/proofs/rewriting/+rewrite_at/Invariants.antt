use Rattle.std.proofs.Common.{length}
use Rattle.floyd_tree.proofs.rewriting.+rewrite_at.Given as goal

abbrev pub decreases-rewrite_at : goal.decreases-rewrite_at
decreases-rewrite_at g l = length l.path.now
