use Rattle.std.proofs.Common.{sym}
use Rattle.floyd_clauses.proofs.clauses.clause.Goals as goal

pub clause_in-requires : goal.clause_in-requires
clause_in-requires g c = c.requires.sorts c.in-Some.pred.now (sym c.in-Some.ensures)
