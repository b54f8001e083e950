use Rattle.floyd_assert.specs.AroundClauses.{binders}
use Rattle.floyd_funspec.proofs.Pairs.{terms_are}
use Rattle.floyd_funspec.proofs.same_lists.terms_same.Goals as goal

pub returns : goal.returns
returns c =
    let same = terms_are (binders c.args.around.now) c.args.a.now c.args.b.now in
    (λ w. same.0 (c.same_terms.ensures.0 w), λ p. c.same_terms.ensures.1 (same.1 p))
