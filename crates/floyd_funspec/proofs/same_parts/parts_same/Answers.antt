use Rattle.std.proofs.Common.{◌<◌, length, refl, sym, ◌∙◌, arith}
use Rattle.floyd_assert.specs.AroundClauses.{binders}
use Rattle.floyd_assert_meaning.specs.Same.{Pairwise, SamePart}
use Rattle.floyd_funspec.proofs.Pairs.{as_many, next, none_left, one_more}
use Rattle.floyd_funspec.proofs.same_parts.parts_same.Goals as goal

pub returns-then-a-b : goal.returns-then-a-b
returns-then-a-b c = (λ w. absurd cc, λ h. absurd (c.if-a-b.true (as_many (SamePart (binders c.args.around.now)) c.args.a.now c.args.b.now h)))

pub parts-preserved : goal.parts-preserved
parts-preserved c =
    let in_a : c.parts.i < length c.args.a.now = c.parts-test.true in
    let in_b : c.parts.i < length c.args.b.now = omega (arith, c.parts-test.true, c.parts.invariant.same) in
    record {
      same = c.parts.invariant.same;
      rest = one_more (SamePart (binders c.args.around.now)) c.args.a.now c.args.b.now c.parts.i c.index-a-i.result c.index-b-i.result in_a in_b c.index-a-i.is c.index-b-i.is (Pairwise (SamePart (binders c.args.around.now)) c.args.a.now c.args.b.now) (c.part_same.ensures.0 c.if-not-part_same.false) c.parts.invariant.rest;
    }

pub returns-then-not-part_same : goal.returns-then-not-part_same
returns-then-not-part_same c =
    let in_a : c.parts.i < length c.args.a.now = c.parts-test.true in
    let in_b : c.parts.i < length c.args.b.now = omega (arith, c.parts-test.true, c.parts.invariant.same) in (
      λ w. absurd cc,
      λ p. sym c.if-not-part_same.true ∙ c.part_same.ensures.1 (next (SamePart (binders c.args.around.now)) c.args.a.now c.args.b.now c.parts.i c.index-a-i.result c.index-b-i.result in_a in_b c.index-a-i.is c.index-b-i.is (Pairwise (SamePart (binders c.args.around.now)) c.args.a.now c.args.b.now) c.parts.invariant.rest p),
    )

pub returns : goal.returns
returns c = (λ w. none_left (SamePart (binders c.args.around.now)) c.args.a.now c.args.b.now c.parts.i (Pairwise (SamePart (binders c.args.around.now)) c.args.a.now c.args.b.now) c.parts-test.false c.parts.invariant.same c.parts.invariant.rest, λ p. refl)
