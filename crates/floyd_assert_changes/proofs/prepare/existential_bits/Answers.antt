use Rattle.std.proofs.Common.{◌+◌, Some, get_or, take, refl, sym, subst, ap, ◌∙◌, arith}
use Rattle.floyd_assert_changes.specs.Changed.{below_existentials}
use Rattle.floyd_assert_changes.specs.ChangesClauses.{IsStill}
use Rattle.floyd_assert_changes.proofs.Existentials.{below_step}
use Rattle.floyd_assert_changes.proofs.Parting.{item_there}
use Rattle.floyd_assert_changes.proofs.prepare.existential_bits.Goals as goal

pub existentials-preserved : goal.existentials-preserved
existentials-preserved c changes still =
    let old = c.args.old.now in
    let new = c.args.new.now in
    let i = c.existentials.i in
    let b = c.index-old-i.result in
    let d = c.index-new-i.result in
    let e = item_there old i b (omega (arith, c.existentials-test.true)) c.index-old-i.is ∙ ap Some c.index-old-i.is in
    let f = item_there new i d (omega (arith, c.existentials-test.true, c.requires)) c.index-new-i.is ∙ ap Some c.index-new-i.is in
    subst (IsStill c.bits_with-all.result)
    (sym (below_step changes old new i (i + 1) (get_or old i b) (get_or new i d) refl e f))
    (c.bits_with-all.ensures (below_existentials changes (take i old) (take i new)) (c.existentials.invariant changes still))
