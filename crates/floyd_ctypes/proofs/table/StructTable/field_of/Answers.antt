use Rattle.std.proofs.Common.{None, Some, ap, ◌∙◌}
use Rattle.std.specs.Option.{option_copied}
use Rattle.floyd_ctypes.proofs.Places.{field_found, field_fits}
use Rattle.floyd_ctypes.proofs.table.StructTable.field_of.Goals as goal

pub returns-in_err-place-clause-value : goal.returns-in_err-place-clause-value
returns-in_err-place-clause-value c =
    ap option_copied c.from_residual-in_err-place.ensures
    ∙ field_found c.args.self.now c.args.tag.now c.in_ok-laid.laid.now c.args.name.now None c.in_ok-laid.ensures.some c.in_err-place.ensures.value

pub returns-clause-value : goal.returns-clause-value
returns-clause-value c =
    c.get-2.ensures.value
    ∙ field_found c.args.self.now c.args.tag.now c.in_ok-laid.laid.now c.args.name.now (Some c.in_ok-place.place.now) c.in_ok-laid.ensures.some c.in_ok-place.ensures.value

pub returns-clause-fits : goal.returns-clause-fits
returns-clause-fits c = field_fits c.args.self.now c.in_ok-laid.laid.now.fields c.in_ok-place.place.now.index c.get-2.result c.get-2.ensures.value c.in_ok-laid.ensures.some.fits
