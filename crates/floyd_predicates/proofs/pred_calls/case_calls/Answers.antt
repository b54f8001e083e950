use Rattle.std.proofs.Common.{◌++◌, ap, ◌∙◌}
use Rattle.floyd_predicates.specs.Calls.{body_calls, pred_case_calls}
use Rattle.floyd_predicates.proofs.CallLemmas.{next_of}
use Rattle.floyd_predicates.proofs.pred_calls.case_calls.Goals as goal

pub cases-preserved : goal.cases-preserved
cases-preserved c =
    let own = c.args.own.now in
    let cases = c.args.cases.now in
    let i = c.cases.case-index in
    let x = c.case-item.result in
    next_of (pred_case_calls own) cases i x c.cases.all.items c.add_body_calls.new.all.items c.cases-test.true c.case-item.is
    (c.in_ok-add_body_calls.ensures ∙ ap (λ ps. c.cases.all.items ++ body_calls own ps x.body) (c.as_slice.ensures.value ∙ c.in_ok-parts.ensures))
    ∙ c.cases.invariant
