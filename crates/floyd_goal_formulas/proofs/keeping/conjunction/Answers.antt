use Rattle.std.proofs.Common.{◌≡◌, ◌+◌, ◌-◌, ◌<◌, ◌∷◌, Some, arith, drop, length, ap, sym, ◌∙◌}
use Rattle.std.proofs.lemmas.List.{drop_more}
use Rattle.floyd_goal_formulas.specs.Keeping.{conjunction, before}
use Rattle.floyd_goal_formulas.proofs.KeepingLemmas.{stops_whole}
use Rattle.floyd_goal_formulas.proofs.keeping.conjunction.Goals as goal

pub returns-in-Err : goal.returns-in-Err
returns-in-Err g c =
    let fs = c.args.formulas.now in
    let j = c.formulas.i - 1 in
    let one = c.index-formulas-i.result in
    let step : j + 1 ≡ c.formulas.i = omega arith in
    let within : j < length fs = omega arith in
    let item : c.in_ok-share.field-0 ≡ one = c.in_ok-share.ensures.value in
    let here : drop j fs ≡ one ∷ drop c.formulas.i fs =
    drop_more fs j one within ∙ ap (λ f. f ∷ drop (j + 1) fs) (sym c.index-formulas-i.is) ∙ ap (λ k. one ∷ drop k fs) step in
    let is : conjunction (drop j fs) ≡ Some (before c.in_ok-share.field-0 c.formulas.all) =
    ap conjunction here ∙ ap (λ f. Some (before f (conjunction (drop c.formulas.i fs)))) (sym item) ∙ ap (λ o. Some (before c.in_ok-share.field-0 o)) (sym c.formulas.invariant.all) in
    stops_whole j fs (before c.in_ok-share.field-0 c.formulas.all) c.in-Err.stop is c.in-Err.ensures
