use Rattle.std.proofs.Common.{◌≡◌, drop}
use Rattle.floyd_linked.specs.PlaceClauses.{import_names, import_places, with_places}
use Rattle.floyd_linked.proofs.places.import_places.Given as goal

abbrev pub invariant-imports : goal.invariant-imports
invariant-imports l = with_places l.place (import_names (drop l.place l.imports)) l.places ≡ import_places l.owner
