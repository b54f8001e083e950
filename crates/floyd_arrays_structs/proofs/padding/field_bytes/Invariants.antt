use Rattle.std.proofs.Common.{◌≡◌, ◌+◌, ◌*◌, ◌≤◌, ◌^◌, drop}
use Rattle.floyd_arrays_structs.specs.StructParts.{field_bytes}
use Rattle.floyd_arrays_structs.proofs.padding.field_bytes.Given as goal

abbrev pub invariant-fields : goal.invariant-fields
invariant-fields l = record {
  sum : l.bytes + field_bytes l.structs (drop l.field-index l.fields) ≡ field_bytes l.structs l.fields;
  small : l.bytes ≤ 2 ^ 64 * l.field-index;
}
