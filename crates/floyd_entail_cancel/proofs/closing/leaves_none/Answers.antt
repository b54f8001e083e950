use Rattle.std.proofs.Common.{◌≡◌, ◌<◌, length, true, false, sym, subst, rules}
use Rattle.floyd_assert_trees.specs.declared.assertion.Assertion.{Assertion}
use Rattle.floyd_entail_cancel.specs.Cancel.{is_done}
use Rattle.floyd_entail_cancel.proofs.CancelLemmas.{more_left, none_left}
use Rattle.floyd_entail_cancel.proofs.closing.leaves_none.Goals as goal

pub first_left-requires : goal.first_left-requires
first_left-requires g c =
    let entail = c.args.entail.now in
    let more : is_done c.args.rest.now c.args.entail.now.target.parts ≡ false = search rules in
    subst (λ (a : Assertion). length a.parts < length c.get-2.result.now.parts) (sym c.get.ensures)
    (subst (λ (a : Assertion). length c.args.entail.now.target.parts < length a.parts) (sym c.get-2.ensures)
    (more_left entail.source.parts entail.target.parts c.args.rest.now c.requires more))

pub returns-then-is_done : goal.returns-then-is_done
returns-then-is_done g c =
    let done : is_done c.args.rest.now c.args.entail.now.target.parts ≡ true = search rules in
    record { exact = none_left c.args.entail.now c.args.rest.now c.closes.result true done c.closes.ensures.exact }
