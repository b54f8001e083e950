use Rattle.floyd_assert_trees.specs.Meanings.{value_defs}
use Rattle.tests_pure.proofs.ScopedLemmas.{is_scoped}
use Rattle.tests_pure.proofs.commands.destructed.Goals as goal

pub do_destruct-requires : goal.do_destruct-requires
do_destruct-requires g c = record { well_formed = is_scoped c.args.trial.now.goal c.args.trial.now.found (value_defs c.no_defs.result) c.requires c.if-trial.true c.if-trial-2.true c.if-trial-3.true }
