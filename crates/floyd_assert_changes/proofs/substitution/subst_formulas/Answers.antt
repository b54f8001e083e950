use Rattle.std.proofs.Common.{◌∙◌, ap}
use Rattle.floyd_assert_changes.specs.ChangesClauses.{changes_of}
use Rattle.floyd_assert_changes.proofs.StillBelow.{puts_still}
use Rattle.floyd_assert_changes.proofs.substitution.subst_formulas.Goals as goal

pub formulas_after-requires-clause-still : goal.formulas_after-requires-clause-still
formulas_after-requires-clause-still g c =
    puts_still c.args.by.now (changes_of c.as_slice.result.now) c.put_bits.result (ap changes_of c.as_slice.ensures.value ∙ c.in_ok-changes.ensures) c.put_bits.ensures
