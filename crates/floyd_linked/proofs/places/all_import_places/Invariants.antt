use Rattle.std.proofs.Common.{◌≡◌, map, take}
use Rattle.floyd_linked.specs.PlaceClauses.{import_places}
use Rattle.floyd_linked.proofs.places.all_import_places.Given as goal

abbrev pub invariant-modules : goal.invariant-modules
invariant-modules l = l.all ≡ map import_places (take l.module-index l.modules)
