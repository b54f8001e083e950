use Rattle.std.proofs.Common.{length}
use Rattle.floyd_listlaw.proofs.fitting.+fit.Given as goal

abbrev pub decreases-fit : goal.decreases-fit
decreases-fit l = length l.forms.now
