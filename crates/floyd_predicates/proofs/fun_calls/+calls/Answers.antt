use Rattle.std.proofs.Common.{◌≡◌, List, Bool, subst, ◌∙◌}
use Rattle.std.specs.Prelude.{OnOk}
use Rattle.floyd_predicates.proofs.CallLemmas.{calls_told}
use Rattle.floyd_predicates.proofs.fun_calls.+calls.Goals as goal

pub add_calls_in-returns : goal.add_calls_in-returns
add_calls_in-returns t c =
    subst (λ (bs : List Bool). OnOk c.add_all_calls.result (c.add_all_calls.new.all.items ≡ bs))
    (calls_told c.args.own.now c.args.parts.now c.args.t.now c.args.all.now.items c.add_call_at.new.all.items c.as_slice-terms.result.now c.head.result.now (c.as_slice-terms.ensures ∙ c.kids.ensures.value) c.head.ensures c.in_ok-add_call_at.ensures)
    c.add_all_calls.ensures
