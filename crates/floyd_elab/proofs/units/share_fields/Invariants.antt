use Rattle.std.proofs.Common.{◌≡◌, take}
use Rattle.floyd_elab.proofs.units.share_fields.Given as goal

-- the fields so far are shared
abbrev pub invariant-fields : goal.invariant-fields
invariant-fields l = l.all ≡ take l.field-index l.fields
