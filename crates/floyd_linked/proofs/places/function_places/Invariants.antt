use Rattle.std.proofs.Common.{◌≡◌, drop}
use Rattle.floyd_linked.specs.PlaceClauses.{function_names, function_places, with_places}
use Rattle.floyd_linked.proofs.places.function_places.Given as goal

abbrev pub invariant-functions : goal.invariant-functions
invariant-functions l = with_places l.place (function_names (drop l.place l.functions)) l.places ≡ function_places l.functions
