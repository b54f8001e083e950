use Rattle.std.proofs.Common.{map, sym, ◌∙◌, ap}
use Rattle.std.specs.List.{flat_map}
use Rattle.floyd_truth.specs.Replace.{puts}
use Rattle.floyd_assert_changes.specs.Changed.{part_after, part_terms, parts_fit}
use Rattle.floyd_assert_changes.specs.ChangesClauses.{changes_of}
use Rattle.floyd_assert_changes.specs.FittingClauses.{fit_after}
use Rattle.floyd_assert_changes.proofs.Answering.{fitting_is}
use Rattle.floyd_assert_changes.proofs.Parting.{parts_fit_after}
use Rattle.floyd_assert_changes.proofs.StillBelow.{puts_still}
use Rattle.floyd_assert_changes.proofs.substitution.subst_parts.Goals as goal

pub parts_after-requires-clause-still : goal.parts_after-requires-clause-still
parts_after-requires-clause-still g c =
    puts_still c.args.by.now (changes_of c.as_slice.result.now) c.put_bits.result (ap changes_of c.as_slice.ensures.value ∙ c.in_ok-changes.ensures) c.put_bits.ensures

pub returns-in-Ok : goal.returns-in-Ok
returns-in-Ok g c =
    let parts = c.args.parts.now in
    let put = puts c.args.by.now in
    let same = ap changes_of c.as_slice.ensures.value ∙ c.in_ok-changes.ensures in
    record {
      exact =
          fitting_is parts_fit (map (part_after put) parts) c.from_vec.result (c.from_vec.ensures ∙ c.in-Ok.ensures.ok ∙ ap (λ ch. map (part_after ch) parts) same)
          (parts_fit_after put parts ∙ ap (λ ch. fit_after ch (flat_map part_terms parts)) (sym same) ∙ c.in-Ok.ensures.fits);
    }
