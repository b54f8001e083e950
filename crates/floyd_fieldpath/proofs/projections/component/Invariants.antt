use Rattle.std.proofs.Common.{◌≡◌, drop}
use Rattle.floyd_fieldpath.specs.Projections.{component}
use Rattle.floyd_fieldpath.proofs.projections.component.Given as goal

abbrev pub invariant-fields : goal.invariant-fields
invariant-fields g l = component l.structs l.ty (drop l.at l.fields) l.name l.value ≡ component l.structs l.ty l.fields l.name l.v
