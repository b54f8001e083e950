use Rattle.std.proofs.Common.{length}
use Rattle.floyd_termread_forms.proofs.sides.+join_sides.Given as goal

abbrev pub decreases-join_sides : goal.decreases-join_sides
decreases-join_sides l = length l.sides.now
