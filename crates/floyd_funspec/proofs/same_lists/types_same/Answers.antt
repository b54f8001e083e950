use Rattle.std.proofs.Common.{◌<◌, length, refl, sym, ◌∙◌, arith}
use Rattle.floyd_assert.specs.AroundClauses.{binders}
use Rattle.floyd_assert_meaning.specs.Same.{Pairwise, SameType}
use Rattle.floyd_funspec.proofs.Pairs.{as_many, next, none_left, one_more}
use Rattle.floyd_funspec.proofs.same_lists.types_same.Goals as goal

pub returns-then-a-b : goal.returns-then-a-b
returns-then-a-b c = (λ w. absurd cc, λ h. absurd (c.if-a-b.true (as_many (SameType (binders c.args.around.now)) c.args.a.now c.args.b.now h)))

pub types-preserved : goal.types-preserved
types-preserved c =
    let in_a : c.types.i < length c.args.a.now = c.types-test.true in
    let in_b : c.types.i < length c.args.b.now = omega (arith, c.types-test.true, c.types.invariant.same) in
    record {
      same = c.types.invariant.same;
      rest = one_more (SameType (binders c.args.around.now)) c.args.a.now c.args.b.now c.types.i c.index-a-i.result c.index-b-i.result in_a in_b c.index-a-i.is c.index-b-i.is (Pairwise (SameType (binders c.args.around.now)) c.args.a.now c.args.b.now) (c.type_same.ensures.0 c.if-not-type_same.false) c.types.invariant.rest;
    }

pub returns-then-not-type_same : goal.returns-then-not-type_same
returns-then-not-type_same c =
    let in_a : c.types.i < length c.args.a.now = c.types-test.true in
    let in_b : c.types.i < length c.args.b.now = omega (arith, c.types-test.true, c.types.invariant.same) in (
      λ w. absurd cc,
      λ p. sym c.if-not-type_same.true ∙ c.type_same.ensures.1 (next (SameType (binders c.args.around.now)) c.args.a.now c.args.b.now c.types.i c.index-a-i.result c.index-b-i.result in_a in_b c.index-a-i.is c.index-b-i.is (Pairwise (SameType (binders c.args.around.now)) c.args.a.now c.args.b.now) c.types.invariant.rest p),
    )

pub returns : goal.returns
returns c = (λ w. none_left (SameType (binders c.args.around.now)) c.args.a.now c.args.b.now c.types.i (Pairwise (SameType (binders c.args.around.now)) c.args.a.now c.args.b.now) c.types-test.false c.types.invariant.same c.types.invariant.rest, λ p. refl)
