use Rattle.std.proofs.Common.{◌≡◌, ◌++◌, drop}
use Rattle.floyd_elab_names.specs.Declarators.{field_types}
use Rattle.floyd_elab_names.proofs.fields.Fields.types.Given as goal

abbrev pub invariant-fields : goal.invariant-fields
invariant-fields l = l.types ++ field_types (drop l.field-index l.field-items) ≡ field_types l.field-items
