use Rattle.std.proofs.Common.{None, Some, ◌∙◌}
use Rattle.floyd_ctypes.proofs.Places.{offset_found}
use Rattle.floyd_ctypes.proofs.table.StructTable.offset_of.Goals as goal

pub returns-in_err-place : goal.returns-in_err-place
returns-in_err-place c =
    c.from_residual-in_err-place.ensures
    ∙ offset_found c.args.self.now c.args.tag.now c.in_ok-laid.laid.now c.args.field.now None c.in_ok-laid.ensures.some c.in_err-place.ensures.value

pub returns : goal.returns
returns c = offset_found c.args.self.now c.args.tag.now c.in_ok-laid.laid.now c.args.field.now (Some c.in_ok-place.place.now) c.in_ok-laid.ensures.some c.in_ok-place.ensures.value
