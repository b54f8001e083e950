use Rattle.floyd_assert_trees.specs.Meanings.{value_defs}
use Rattle.tests_pure.proofs.ScopedLemmas.{target_fits}
use Rattle.tests_pure.proofs.commands.introduced.Goals as goal

pub do_intro-requires : goal.do_intro-requires
do_intro-requires g c = record { well_formed = target_fits c.args.trial.now.goal c.args.trial.now.found (value_defs c.no_defs.result) c.requires c.if-trial.true }
