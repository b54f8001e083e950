use Rattle.floyd_clause_laws.proofs.Sorting.{opens_well}
use Rattle.floyd_clause_laws.proofs.laws.clauses_are_made.Goals as goal

pub returns : goal.returns
returns c = λ defs specs name terms preds p own. opens_well defs specs name p terms preds own
