use Rattle.floyd_ctypes.proofs.Tables.{laid_out}
use Rattle.floyd_ctypes.proofs.table.StructTable.fields_of.Goals as goal

pub returns-clause-laid : goal.returns-clause-laid
returns-clause-laid c = laid_out c.args.self.now c.args.tag.now c.in_ok-laid.laid.now c.in_ok-laid.ensures.some
