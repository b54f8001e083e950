use Rattle.std.proofs.Common.{sym, ap, ◌∙◌}
use Rattle.floyd_ctypes.specs.declared.ctype.CType.{CType}
use Rattle.floyd_ctypes.specs.Layout.{align}
use Rattle.floyd_ctypes.proofs.Arrays.{align-array}
use Rattle.floyd_ctypes.proofs.table.StructTable.+align_of.Goals as goal

pub returns-in-Array : goal.returns-in-Array
returns-in-Array t c =
    c.align_of.ensures
    ∙ ap (λ (u : CType). align c.args.self.now u) c.get.ensures
    ∙ sym (align-array c.args.self.now c.in-Array.element c.in-Array.field-1)
    ∙ ap (λ (u : CType). align c.args.self.now u) (sym c.in-Array.is)
