use Rattle.std.proofs.Common.{◌≡◌, take}
use Rattle.floyd_specread_sources.proofs.structs.share_fields.Given as goal

abbrev pub invariant-fields : goal.invariant-fields
invariant-fields l = l.all ≡ take l.field-index l.fields
