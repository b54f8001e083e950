use Rattle.floyd_conditions.proofs.BranchLemmas.{at_comparison, at_other}
use Rattle.floyd_conditions.proofs.testing.branches_at.Goals as goal

pub returns-in-Some : goal.returns-in-Some
returns-in-Some g c =
    record { exact = at_comparison c.args.at.source.now c.args.at.defs.now.structs c.args.e.now (c.in-Some.op, c.in-Some.a.now, c.in-Some.b.now) c.compared.result c.in-Some.ensures c.compared.ensures.exact }

pub returns-in-None : goal.returns-in-None
returns-in-None g c = record { exact = at_other c.args.at.source.now c.args.at.defs.now.structs c.args.e.now c.nonzero.result c.in-None.ensures c.nonzero.ensures.exact }
