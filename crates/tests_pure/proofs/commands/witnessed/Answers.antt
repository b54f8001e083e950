use Rattle.floyd_assert_trees.specs.Meanings.{value_defs}
use Rattle.tests_pure.proofs.ScopedLemmas.{target_fits}
use Rattle.tests_pure.proofs.commands.witnessed.Goals as goal

pub do_exists-requires-clause-well_formed : goal.do_exists-requires-clause-well_formed
do_exists-requires-clause-well_formed g c = target_fits c.args.trial.now.goal c.args.trial.now.found (value_defs c.no_defs.result) c.requires c.if-trial.true
