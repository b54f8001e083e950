use Rattle.floyd_clause_forms.proofs.Folding.{folds}
use Rattle.floyd_clause_forms.proofs.laws.folds_are_made.Goals as goal

pub returns : goal.returns
returns c = folds
