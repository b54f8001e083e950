use Rattle.std.proofs.Common.{◌≡◌, None, drop}
use Rattle.floyd_fieldpath.specs.Addresses.{path_sum}
use Rattle.floyd_fieldpath.proofs.addresses.path_sum.Given as goal

abbrev pub invariant-places : goal.invariant-places
invariant-places g l = path_sum l.structs l.inner (drop l.place l.path) l.sum ≡ path_sum l.structs l.t l.path None
