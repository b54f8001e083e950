use Rattle.std.proofs.Common.{◌≡◌, ◌++◌, drop}
use Rattle.floyd_link_names.proofs.structs.share_fields.Given as goal

abbrev pub invariant-fields : goal.invariant-fields
invariant-fields l = l.all ++ drop l.field-index l.fields ≡ l.fields
