use Rattle.std.proofs.Common.{◌+◌, ◌-◌, ◌++◌, Some, get_or, length, take, ap, ◌∙◌, arith}
use Rattle.floyd_assert_changes.specs.Changed.{below_existentials}
use Rattle.floyd_assert_changes.specs.ChangesClauses.{changes_of}
use Rattle.floyd_assert_changes.proofs.Existentials.{one_more_change, pushed_change}
use Rattle.floyd_assert_changes.proofs.Parting.{item_there}
use Rattle.floyd_assert_changes.proofs.prepare.existential_changes.Goals as goal

pub existentials-preserved : goal.existentials-preserved
existentials-preserved c =
    let ch = changes_of c.args.by.now in
    let old = c.args.old.now in
    let new = c.args.new.now in
    let i = c.existentials.i in
    let n = length old - (i + 1) in
    let b = c.index-old-place.result in
    let d = c.index-new-place.result in
    let e = item_there old n b (omega (arith, c.existentials-test.true)) c.index-old-place.is ∙ ap Some c.index-old-place.is in
    let f = item_there new n d (omega (arith, c.existentials-test.true, c.requires)) c.index-new-place.is ∙ ap Some c.index-new-place.is in
    ap (λ cs. cs ++ below_existentials ch (take n old) (take n new)) (pushed_change c.existentials.all.items c.push.new.self.items c.in_ok-name.name c.in_ok-share.field-0 c.in_ok-push.ensures.items)
    ∙ one_more_change ch (changes_of c.existentials.all.items) old new n (length old - i) (get_or old n b) (get_or new n d) c.in_ok-name.name c.in_ok-share.field-0 (omega (arith, c.existentials-test.true)) e f c.in_ok-name.ensures c.in_ok-share.ensures
    ∙ c.existentials.invariant
