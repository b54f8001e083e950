use Rattle.std.proofs.Common.{sym, ◌∙◌, arith}
use Rattle.std.proofs.lemmas.Int.{ints}
use Rattle.floyd_int.proofs.KindLaws.{pow-width_le}
use Rattle.floyd_control.proofs.LabelLemmas.{value_negative, value_other}
use Rattle.floyd_control.proofs.labels.label_value.Goals as goal

pub returns-then-is_negative : goal.returns-then-is_negative
returns-then-is_negative c =
    let bound = pow-width_le c.args.kind in
    let e = value_negative c.args.kind c.args.bits (sym c.is_negative.ensures ∙ c.if-is_negative.true) in
    omega (arith, ints)

pub returns-else-is_negative : goal.returns-else-is_negative
returns-else-is_negative c =
    let e = value_other c.args.kind c.args.bits (sym c.is_negative.ensures ∙ c.if-is_negative.false) in
    omega (arith, ints)
