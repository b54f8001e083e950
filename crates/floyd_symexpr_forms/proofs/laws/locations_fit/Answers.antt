use Rattle.floyd_symexpr_forms.proofs.Locations.{location_fits}
use Rattle.floyd_symexpr_forms.proofs.laws.locations_fit.Goals as goal

pub returns : goal.returns
returns c = λ defs scope source e given fits f. location_fits defs scope source fits e given f
