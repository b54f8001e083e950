use Rattle.std.proofs.Common.{length}
use Rattle.floyd_play_terms.proofs.expected.+fixed.Given as goal

abbrev pub decreases-fixed : goal.decreases-fixed
decreases-fixed l = length l.forms.now
