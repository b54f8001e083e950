use Rattle.floyd_assert_trees.specs.Meanings.{value_defs}
use Rattle.tests_pure.proofs.ScopedLemmas.{hypotheses_fit}
use Rattle.tests_pure.proofs.commands.specialized.Goals as goal

pub do_specialize-requires : goal.do_specialize-requires
do_specialize-requires g c = record { well_formed = hypotheses_fit c.args.trial.now.goal c.args.trial.now.found (value_defs c.no_defs.result) c.requires c.if-trial.true }
