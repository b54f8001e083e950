use Rattle.std.proofs.Common.{◌≡◌, drop}
use Rattle.floyd_fieldpath.specs.Projections.{item_at}
use Rattle.floyd_fieldpath.proofs.projections.item_at.Given as goal

abbrev pub invariant-places : goal.invariant-places
invariant-places g l = item_at l.structs l.inner (drop l.place l.path) l.value ≡ item_at l.structs l.t l.path l.v
