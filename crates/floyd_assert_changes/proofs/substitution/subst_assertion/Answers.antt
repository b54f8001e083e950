use Rattle.std.proofs.Common.{[], ◌∷◌, ◌++◌, ap, subst, ◌∙◌}
use Rattle.floyd_text.specs.Gives.{RuleGives}
use Rattle.floyd_assert_trees.specs.declared.assertion.Assertion.{Assertion}
use Rattle.floyd_assert_changes.specs.Changed.{assertion_with}
use Rattle.floyd_assert_changes.proofs.substitution.subst_assertion.Goals as goal

pub returns : goal.returns
returns g c =
    let pairs =
    c.as_slice.ensures.value
    ∙ c.in_ok-push.ensures.items
    ∙ ap (λ ps. ps ++ (c.in_ok-share.field-0, c.in_ok-share-2.field-0) ∷ []) c.new-pairs.ensures.items
    ∙ ap (λ n. (n, c.in_ok-share-2.field-0) ∷ []) c.in_ok-share.ensures
    ∙ ap (λ t. (c.args.x.now, t) ∷ []) c.in_ok-share-2.ensures.value in
    record { exact = subst (λ ps. RuleGives (λ (made : Assertion). made) c.change_assertion.result (assertion_with ps c.args.a.now)) pairs c.change_assertion.ensures.exact }
