use Rattle.std.proofs.Common.{sym, subst}
use Rattle.floyd_ctypes.specs.Stored.{IsTable}
use Rattle.floyd_ctypes.proofs.table.StructTable.share.Goals as goal

pub invariant_of-result : goal.invariant_of-result
invariant_of-result c = subst IsTable (sym c.in_ok-copied.ensures) c.self.invariant
