use Rattle.std.proofs.Common.{Bool, ◌&&◌, sym, ap, ◌∙◌}
use Rattle.floyd_check_stub.specs.MainForm.{returns_set}
use Rattle.floyd_check_stub.proofs.MainLemmas.{split_at_last}
use Rattle.floyd_check_stub.proofs.mains.sets_and_returns.Goals as goal

pub returns-then-all_set_constants : goal.returns-then-all_set_constants
returns-then-all_set_constants c =
    let all = c.args.statements.now in
    let last = c.in-Some.last.now in
    c.returns_set.ensures
    ∙ sym (split_at_last all c.in-Some.front.now last c.in-Some.ensures.cases.0 ∙ ap (λ (b : Bool). b && returns_set all last) (sym c.all_set_constants.ensures ∙ c.if-all_set_constants.true))

pub returns-else-all_set_constants : goal.returns-else-all_set_constants
returns-else-all_set_constants c =
    let all = c.args.statements.now in
    let last = c.in-Some.last.now in
    c.if-all_set_constants.false
    ∙ sym (split_at_last all c.in-Some.front.now last c.in-Some.ensures.cases.0 ∙ ap (λ (b : Bool). b && returns_set all last) (sym c.all_set_constants.ensures ∙ c.if-all_set_constants.false))
