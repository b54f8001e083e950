use Rattle.std.proofs.Common.{◌<◌, length, refl, sym, ◌∙◌, arith}
use Rattle.floyd_assert.specs.AroundClauses.{binders}
use Rattle.floyd_assert_meaning.specs.Same.{Pairwise}
use Rattle.floyd_truth.specs.Same.{SameUnder}
use Rattle.floyd_funspec.proofs.Pairs.{as_many, next, none_left, one_more}
use Rattle.floyd_funspec.proofs.same_lists.formulas_same.Goals as goal

pub returns-then-a-b : goal.returns-then-a-b
returns-then-a-b c = (λ w. absurd cc, λ h. absurd (c.if-a-b.true (as_many (SameUnder (binders c.args.around.now)) c.args.a.now c.args.b.now h)))

pub formulas-preserved : goal.formulas-preserved
formulas-preserved c =
    let in_a : c.formulas.i < length c.args.a.now = c.formulas-test.true in
    let in_b : c.formulas.i < length c.args.b.now = omega (arith, c.formulas-test.true, c.formulas.invariant.same) in
    record {
      same = c.formulas.invariant.same;
      rest = one_more (SameUnder (binders c.args.around.now)) c.args.a.now c.args.b.now c.formulas.i c.index-a-i.result c.index-b-i.result in_a in_b c.index-a-i.is c.index-b-i.is (Pairwise (SameUnder (binders c.args.around.now)) c.args.a.now c.args.b.now) (c.same_under.ensures.0 c.if-not-same_under.false) c.formulas.invariant.rest;
    }

pub returns-then-not-same_under : goal.returns-then-not-same_under
returns-then-not-same_under c =
    let in_a : c.formulas.i < length c.args.a.now = c.formulas-test.true in
    let in_b : c.formulas.i < length c.args.b.now = omega (arith, c.formulas-test.true, c.formulas.invariant.same) in (
      λ w. absurd cc,
      λ p. sym c.if-not-same_under.true ∙ c.same_under.ensures.1 (next (SameUnder (binders c.args.around.now)) c.args.a.now c.args.b.now c.formulas.i c.index-a-i.result c.index-b-i.result in_a in_b c.index-a-i.is c.index-b-i.is (Pairwise (SameUnder (binders c.args.around.now)) c.args.a.now c.args.b.now) c.formulas.invariant.rest p),
    )

pub returns : goal.returns
returns c = (λ w. none_left (SameUnder (binders c.args.around.now)) c.args.a.now c.args.b.now c.formulas.i (Pairwise (SameUnder (binders c.args.around.now)) c.args.a.now c.args.b.now) c.formulas-test.false c.formulas.invariant.same c.formulas.invariant.rest, λ p. refl)
