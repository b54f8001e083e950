use Rattle.floyd_ctypes.proofs.Arrays.{levels}
use Rattle.floyd_ctypes.proofs.table.StructTable.+layout_of.Given as goal

abbrev pub decreases-layout_of : goal.decreases-layout_of
decreases-layout_of l = levels l.t.now
