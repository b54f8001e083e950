use Rattle.floyd_assert.specs.AroundClauses.{binders}
use Rattle.floyd_funspec.proofs.Wholes.{posts_are}
use Rattle.floyd_funspec.proofs.sameness.posts_same.Goals as goal

pub returns-then-sorts_same : goal.returns-then-sorts_same
returns-then-sorts_same c =
    posts_are c.args.a.now c.args.b.now (binders c.args.around.now) c.as_slice-old.result.now c.as_slice-new.result.now c.sorts_same.result c.ends_same.result
    c.as_slice-old.ensures c.as_slice-new.ensures c.if-sorts_same.true c.sorts_same.ensures c.ends_same.ensures
