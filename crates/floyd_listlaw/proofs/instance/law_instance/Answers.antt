use Rattle.std.proofs.Common.{sym, ◌∙◌}
use Rattle.floyd_listlaw.proofs.InstanceRuns.{law_holds}
use Rattle.floyd_listlaw.proofs.instance.law_instance.Goals as goal

pub returns-clause-holds : goal.returns-clause-holds
returns-clause-holds g c =
    law_holds c.args.name.now c.args.terms.now c.as_slice.result.now c.in-Some.law c.of_law.result (sym c.law_named.ensures ∙ c.in-Some.is) c.as_slice.ensures c.of_law.ensures.exact
