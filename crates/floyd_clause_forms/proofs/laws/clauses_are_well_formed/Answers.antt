use Rattle.floyd_clause_forms.proofs.Forming.{clause_formed}
use Rattle.floyd_clause_forms.proofs.laws.clauses_are_well_formed.Goals as goal

pub returns : goal.returns
returns c = clause_formed
