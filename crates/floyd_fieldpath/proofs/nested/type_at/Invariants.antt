use Rattle.std.proofs.Common.{◌≡◌, drop}
use Rattle.floyd_fieldpath.specs.Nested.{type_at}
use Rattle.floyd_fieldpath.proofs.nested.type_at.Given as goal

abbrev pub invariant-places : goal.invariant-places
invariant-places g l = type_at l.structs l.inner (drop l.place l.path) ≡ type_at l.structs l.t l.path
