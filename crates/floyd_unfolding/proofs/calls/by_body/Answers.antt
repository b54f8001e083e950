use Rattle.std.proofs.Common.{ap}
use Rattle.floyd_assert_trees.specs.declared.items.FunBody.{FunBody}
use Rattle.floyd_unfolding.specs.Calls.{opened_by}
use Rattle.floyd_unfolding.proofs.calls.by_body.Goals as goal

pub term_with-requires : goal.term_with-requires
term_with-requires g c = c.requires (c.args.arguments.now, c.in-Whole.whole) (ap (λ (b : FunBody). opened_by b c.args.terms.now c.args.arguments.now) c.in-Whole.is)
