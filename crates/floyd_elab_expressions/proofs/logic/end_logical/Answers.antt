use Rattle.floyd_elab_expressions.proofs.Concluding.{is_concluded}
use Rattle.floyd_elab_expressions.proofs.logic.end_logical.Goals as goal

pub returns : goal.returns
returns c =
    record { exact = λ progress. is_concluded c.args.parts.place c.args.op c.args.first.test c.args.parts.right.now c.args.b.value c.args.b.before c.args.out.now _ _ c.args.first.x _ _ progress _ c.in_ok-x.ensures (c.in_ok-check_test.ensures.exact progress.tags) c.in_ok-set.ensures c.in_ok-push.ensures.ok (c.truth.ensures _) }
