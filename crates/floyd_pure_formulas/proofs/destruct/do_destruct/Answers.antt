use Rattle.floyd_assert_trees.specs.Meanings.{value_defs}
use Rattle.floyd_pure_formulas.proofs.Destructing.{can_open_named}
use Rattle.floyd_pure_formulas.proofs.destruct.do_destruct.Goals as goal

pub hypothesis_cases-requires : goal.hypothesis_cases-requires
hypothesis_cases-requires g c = can_open_named (value_defs c.args.defs.now) c.args.goal.now c.args.args.now c.requires.well_formed.hypotheses
