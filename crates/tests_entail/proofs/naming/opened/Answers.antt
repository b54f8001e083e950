use Rattle.std.proofs.Common.{sym, ◌∙◌}
use Rattle.tests_entail.proofs.SuitLemmas.{intros_fit}
use Rattle.tests_entail.proofs.naming.opened.Goals as goal

pub do_intros-requires : goal.do_intros-requires
do_intros-requires g c = record { sorts = intros_fit c.args.goal.now c.args.args.now.names (sym c.in_ok-suits.ensures ∙ c.if-suits.true) }
