use Rattle.std.proofs.Common.{◌<◌, length, refl, sym, ◌∙◌, arith}
use Rattle.std.proofs.lemmas.Option.{get_or_from_slice_get}
use Rattle.floyd_assert.specs.AroundClauses.{binders}
use Rattle.floyd_assert_meaning.specs.Same.{Pairwise, StepsAgree}
use Rattle.floyd_truth.specs.Same.{SameTerm}
use Rattle.floyd_funspec.proofs.Pairs.{as_many, next, none_left, one_more}
use Rattle.floyd_funspec.proofs.same_parts.path_same.Goals as goal

pub returns-then-len : goal.returns-then-len
returns-then-len c = (λ w. absurd cc, λ h. absurd (c.if-len.true (c.len.ensures ∙ as_many (StepsAgree (SameTerm (binders c.args.around.now))) c.args.a.now c.args.b.now h ∙ sym c.len-2.ensures)))

pub steps-preserved : goal.steps-preserved
steps-preserved c =
    let in_a : c.steps.i < length c.args.a.now = omega (arith, c.len-i-end.ensures) in
    let in_b : c.steps.i < length c.args.b.now = omega (arith, c.len-i-end.ensures, c.steps.invariant.same) in
    record {
      same = c.steps.invariant.same;
      rest = one_more (StepsAgree (SameTerm (binders c.args.around.now))) c.args.a.now c.args.b.now c.steps.i c.step.result.now c.step-in-steps.result.now in_a in_b (sym (get_or_from_slice_get c.args.a.now c.steps.i c.step.result.now c.step.result.now c.step.ensures)) (sym (get_or_from_slice_get c.args.b.now c.steps.i c.step-in-steps.result.now c.step-in-steps.result.now c.step-in-steps.ensures)) (Pairwise (StepsAgree (SameTerm (binders c.args.around.now))) c.args.a.now c.args.b.now) (c.step_same.ensures.0 c.if-not-step_same.false) c.steps.invariant.rest;
    }

pub returns-then-not-step_same : goal.returns-then-not-step_same
returns-then-not-step_same c =
    let in_a : c.steps.i < length c.args.a.now = omega (arith, c.len-i-end.ensures) in
    let in_b : c.steps.i < length c.args.b.now = omega (arith, c.len-i-end.ensures, c.steps.invariant.same) in (
      λ w. absurd cc,
      λ p. sym c.if-not-step_same.true ∙ c.step_same.ensures.1 (next (StepsAgree (SameTerm (binders c.args.around.now))) c.args.a.now c.args.b.now c.steps.i c.step.result.now c.step-in-steps.result.now in_a in_b (sym (get_or_from_slice_get c.args.a.now c.steps.i c.step.result.now c.step.result.now c.step.ensures)) (sym (get_or_from_slice_get c.args.b.now c.steps.i c.step-in-steps.result.now c.step-in-steps.result.now c.step-in-steps.ensures)) (Pairwise (StepsAgree (SameTerm (binders c.args.around.now))) c.args.a.now c.args.b.now) c.steps.invariant.rest p),
    )

pub returns : goal.returns
returns c = (λ w. none_left (StepsAgree (SameTerm (binders c.args.around.now))) c.args.a.now c.args.b.now c.steps.i (Pairwise (StepsAgree (SameTerm (binders c.args.around.now))) c.args.a.now c.args.b.now) (omega (arith, c.steps-test.false, c.len-i-end.ensures)) c.steps.invariant.same c.steps.invariant.rest, λ p. refl)
