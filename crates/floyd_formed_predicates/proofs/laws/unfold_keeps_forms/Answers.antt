use Rattle.floyd_formed_predicates.proofs.Predicates.{unfold_forms}
use Rattle.floyd_formed_predicates.proofs.laws.unfold_keeps_forms.Goals as goal

pub returns : goal.returns
returns c = unfold_forms
