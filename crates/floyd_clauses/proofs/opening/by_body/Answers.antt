use Rattle.std.proofs.Common.{ap}
use Rattle.floyd_assert_trees.specs.declared.items.PredBody.{PredBody}
use Rattle.floyd_clauses.specs.Clauses.{opened_by}
use Rattle.floyd_clauses.proofs.opening.by_body.Goals as goal

pub change_assertion-requires : goal.change_assertion-requires
change_assertion-requires g c = c.requires (c.args.arguments.now, c.in-Whole.whole) (ap (λ (b : PredBody). opened_by b c.args.terms.now c.args.arguments.now) c.in-Whole.is)
