use Rattle.std.proofs.Common.{length}
use Rattle.floyd_simplifying.proofs.lists.+chained.Given as goal

abbrev pub decreases-chained : goal.decreases-chained
decreases-chained g l = length l.items.now
