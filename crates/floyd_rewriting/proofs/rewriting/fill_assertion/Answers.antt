use Rattle.std.proofs.Common.{[], ◌∷◌, ap, subst, ◌∙◌}
use Rattle.floyd_text.specs.Gives.{RuleGives}
use Rattle.floyd_assert_trees.specs.declared.assertion.Assertion.{Assertion}
use Rattle.floyd_assert_changes.specs.Changed.{assertion_with}
use Rattle.floyd_rewriting.proofs.rewriting.fill_assertion.Goals as goal

pub returns : goal.returns
returns g c =
    let name = c.args.name.now in
    let to = c.args.to.now in
    let pairs =
    ap (λ n. (n, c.in_ok-share-2.field-0) ∷ (c.in_ok-share-3.field-0, c.in_ok-share-4.field-0) ∷ []) c.in_ok-share.ensures
    ∙ ap (λ t. (name, t) ∷ (c.in_ok-share-3.field-0, c.in_ok-share-4.field-0) ∷ []) c.in_ok-share-2.ensures.value
    ∙ ap (λ n. (name, to) ∷ (n, c.in_ok-share-4.field-0) ∷ []) c.in_ok-share-3.ensures
    ∙ ap (λ t. (name, to) ∷ (name, t) ∷ []) c.in_ok-share-4.ensures.value in
    subst (λ ps. RuleGives (λ (a : Assertion). a) c.change_assertion.result (assertion_with ps c.args.opened.now)) pairs c.change_assertion.ensures.exact
