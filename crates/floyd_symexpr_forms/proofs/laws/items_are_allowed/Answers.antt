use Rattle.floyd_symexpr_forms.proofs.Items.{item_fits}
use Rattle.floyd_symexpr_forms.proofs.laws.items_are_allowed.Goals as goal

pub returns : goal.returns
returns c = λ defs scope t path v item w p g e. item_fits defs scope t path v item w p g e
