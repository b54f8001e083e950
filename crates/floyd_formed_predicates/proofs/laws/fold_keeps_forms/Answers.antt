use Rattle.floyd_formed_predicates.proofs.Predicates.{fold_forms}
use Rattle.floyd_formed_predicates.proofs.laws.fold_keeps_forms.Goals as goal

pub returns : goal.returns
returns c = fold_forms
