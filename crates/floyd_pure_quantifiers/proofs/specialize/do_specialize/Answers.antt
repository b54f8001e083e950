use Rattle.std.proofs.Common.{sym}
use Rattle.floyd_assert_trees.specs.Meanings.{value_defs}
use Rattle.floyd_pure_quantifiers.proofs.Taking.{hypothesis_takes}
use Rattle.floyd_pure_quantifiers.proofs.specialize.do_specialize.Goals as goal

pub specialized-requires : goal.specialized-requires
specialized-requires g c = hypothesis_takes (value_defs c.args.defs.now) c.args.goal.now c.args.args.now c.in-Some.hypothesis.now c.requires.well_formed (sym c.in-Some.ensures)
