use Rattle.std.proofs.Common.{◌<◌, length, sym, ◌∙◌, ap, take, ◌++◌, ◌∷◌, [], arith}
use Rattle.std.proofs.lemmas.List.{take_more}
use Rattle.std.proofs.lemmas.Option.{get_or_from_slice_get}
use Rattle.floyd_tree.proofs.paths.Path.share.Goals as goal

pub steps-preserved : goal.steps-preserved
steps-preserved c =
    let steps = c.args.self.now in
    let i = c.steps.place in
    let step = c.step.result.now in
    let below : i < length steps = omega (arith, c.len-place-end.ensures) in
    c.in_ok-push.ensures.ok
    ∙ ap (λ xs. xs ++ c.in_ok-share.field-0 ∷ []) c.steps.invariant
    ∙ ap (λ s. take i steps ++ s ∷ []) (c.in_ok-share.ensures ∙ sym (get_or_from_slice_get steps i step step c.step.ensures))
    ∙ sym (take_more steps i step below)
