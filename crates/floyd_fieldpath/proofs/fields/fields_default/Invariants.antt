use Rattle.std.proofs.Common.{◌≡◌, ◌<◌, length, drop, Ok}
use Rattle.floyd_fieldpath.specs.Updates.{fields_default}
use Rattle.floyd_fieldpath.proofs.fields.fields_default.Given as goal

abbrev pub invariant-fields : goal.invariant-fields
invariant-fields g l = record {
  within : l.at < length l.fields;
  behind : fields_default l.structs (drop l.at l.fields) ≡ Ok l.value;
}

abbrev pub decreases-fields : goal.decreases-fields
decreases-fields g l = l.at
