use Rattle.std.proofs.Common.{◌≡◌, [], length}
use Rattle.floyd_link_names.specs.DuplicateClauses.{all_names}
use Rattle.floyd_link_names.proofs.missing.names_of.Given as goal

abbrev pub decreases-units : goal.decreases-units
decreases-units l = length l.rest

abbrev pub invariant-units : goal.invariant-units
invariant-units l = all_names l.names l.rest ≡ all_names [] l.units
