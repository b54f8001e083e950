use Rattle.std.proofs.Common.{◌≡◌, drop}
use Rattle.floyd_fieldpath.specs.UpdateClauses.{others}
use Rattle.floyd_fieldpath.proofs.FieldLemmas.{behind}
use Rattle.floyd_fieldpath.proofs.fields.others_of.Given as goal

abbrev pub invariant-fields : goal.invariant-fields
invariant-fields g l = behind l.before (others l.structs (drop l.at l.fields) l.name l.value) ≡ others l.structs l.fields l.name l.v
