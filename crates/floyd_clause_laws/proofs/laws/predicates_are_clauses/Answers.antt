use Rattle.floyd_clause_laws.proofs.Meeting.{meets}
use Rattle.floyd_clause_laws.proofs.laws.predicates_are_clauses.Goals as goal

pub returns : goal.returns
returns c = λ S env name p terms a fit e h. meets S env name p terms fit h a e
