use Rattle.std.proofs.Common.{◌<◌, length, sym, ◌∙◌, ap, take, get_or, ◌++◌, ◌∷◌, [], arith}
use Rattle.std.proofs.lemmas.List.{take_more}
use Rattle.std.proofs.lemmas.Option.{get_or_from_slice_get}
use Rattle.floyd_assert.proofs.parts.equal_path.Goals as goal

pub steps-preserved : goal.steps-preserved
steps-preserved c =
    let a = c.args.a.now in
    let b = c.args.b.now in
    let i = c.steps.i in
    let x = c.step.result.now in
    let y = c.step-in-steps.result.now in
    let in_a : i < length a = omega (arith, c.len-i-end.ensures) in
    let in_b : i < length b = omega (arith, c.len-i-end.ensures, c.steps.invariant.0) in (
      c.steps.invariant.0,
      take_more a i x in_a
          ∙ ap (λ s. take i a ++ s ∷ []) (get_or_from_slice_get a i x x c.step.ensures ∙ c.equal_step.ensures.0 c.if-not-equal_step.false ∙ sym (get_or_from_slice_get b i y y c.step-in-steps.ensures))
          ∙ ap (λ xs. xs ++ get_or b i y ∷ []) c.steps.invariant.1
          ∙ sym (take_more b i y in_b),
    )
