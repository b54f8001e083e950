use Rattle.std.proofs.Common.{sym, ◌∙◌, ap, subst}
use Rattle.std.specs.Prelude.{◌∷◌, bit_or}
use Rattle.std.proofs.lemmas.Slice.Eq.{bytes_eq-Decides}
use Rattle.floyd_truth.specs.Capture.{Called}
use Rattle.floyd_assert_changes.specs.ChangesClauses.{IsStill}
use Rattle.floyd_assert_changes.proofs.StillBelow.{still_kept, still_renamed}
use Rattle.floyd_assert_changes.proofs.prepare.bits_with.Goals as goal

pub returns-then-eq : goal.returns-then-eq
returns-then-eq c changes still =
    still_kept c.args.bits changes c.args.x.now c.args.name.now ((bytes_eq-Decides c.args.x.now c.args.name.now).0 (sym c.eq.ensures ∙ c.if-eq.true)) still

pub returns-else-eq : goal.returns-else-eq
returns-else-eq c changes still =
    subst (λ m. IsStill m ((c.args.x.now, Called c.args.name.now) ∷ changes)) (ap (bit_or c.args.bits) (sym c.bit_of.ensures))
    (still_renamed c.args.bits changes c.args.x.now c.args.name.now still)
