use Rattle.std.proofs.Common.{◌≡◌, length}
use Rattle.floyd_link_names.specs.Duplicates.{first_from}
use Rattle.floyd_link_names.specs.MainClauses.{other_mains}
use Rattle.floyd_link_names.proofs.mains.other_mains.Given as goal

abbrev pub decreases-declarations : goal.decreases-declarations
decreases-declarations l = length l.rest

abbrev pub invariant-declarations : goal.invariant-declarations
invariant-declarations l = first_from l.found (other_mains l.rest) ≡ first_from l.fn.first (other_mains l.declarations)
