use Rattle.std.proofs.Common.{length}
use Rattle.floyd_listlaw.proofs.fitting.+found.Given as goal

abbrev pub decreases-found : goal.decreases-found
decreases-found l = length l.forms.now
