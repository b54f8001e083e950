use Rattle.std.proofs.Common.{◌≡◌, ◌++◌, drop, map}
use Rattle.floyd_fieldpath.specs.Nested.{sized_type}
use Rattle.floyd_specread_sources.proofs.types.literal_types.Given as goal

abbrev pub invariant-types : goal.invariant-types
invariant-types l = l.all ++ map sized_type (drop l.t-index l.types) ≡ map sized_type l.types
