use Rattle.std.proofs.Common.{◌≡◌, ◌++◌, length, reverse}
use Rattle.floyd_elab.proofs.units.put_back.Given as goal

abbrev pub decreases-more : goal.decreases-more
decreases-more l = length l.more

abbrev pub invariant-more : goal.invariant-more
invariant-more l = l.variables ++ reverse l.more ≡ l.initial.variables ++ reverse l.initial.more
