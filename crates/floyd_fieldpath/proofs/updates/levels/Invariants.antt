use Rattle.std.proofs.Common.{◌≡◌, drop}
use Rattle.floyd_fieldpath.specs.UpdateClauses.{levels}
use Rattle.floyd_fieldpath.proofs.LevelLemmas.{inside}
use Rattle.floyd_fieldpath.proofs.updates.levels.Given as goal

abbrev pub invariant-places : goal.invariant-places
invariant-places g l = inside l.all.items (levels l.structs l.inner (drop l.place l.path) l.value) ≡ levels l.structs l.t l.path l.v
