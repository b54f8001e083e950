use Rattle.std.proofs.Common.{sym, ◌∙◌}
use Rattle.tests_entail.proofs.SuitLemmas.{exists_fit}
use Rattle.tests_entail.proofs.naming.put.Goals as goal

pub do_exists-requires : goal.do_exists-requires
do_exists-requires g c = record { sorts = exists_fit c.args.goal.now c.args.args.now.terms (sym c.in_ok-suits.ensures ∙ c.if-suits.true) }
