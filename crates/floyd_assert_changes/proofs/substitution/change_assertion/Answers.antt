use Rattle.std.proofs.Common.{◌∙◌, ap, sym, subst}
use Rattle.floyd_assert_changes.specs.Changed.{AssertionSortsAgree}
use Rattle.floyd_assert_changes.specs.ChangesClauses.{changes_of}
use Rattle.floyd_assert_changes.proofs.StillBelow.{puts_still}
use Rattle.floyd_assert_changes.proofs.substitution.change_assertion.Goals as goal

pub assertion_after-requires-clause-still : goal.assertion_after-requires-clause-still
assertion_after-requires-clause-still g c =
    puts_still c.args.by.now (changes_of c.as_slice.result.now) c.put_bits.result (ap changes_of c.as_slice.ensures.value ∙ c.in_ok-changes.ensures) c.put_bits.ensures

pub assertion_after-requires-clause-sorts : goal.assertion_after-requires-clause-sorts
assertion_after-requires-clause-sorts g c =
    subst (λ ch. AssertionSortsAgree ch c.args.a.now) (sym (ap changes_of c.as_slice.ensures.value ∙ c.in_ok-changes.ensures)) c.requires
