use Rattle.std.proofs.Common.{◌+◌, ◌<◌, drop, length, map, sym, ◌∙◌, ap, arith}
use Rattle.floyd_predicates.specs.WellFormed.{earliest, pred_refusal, sooner}
use Rattle.floyd_predicates.proofs.Orders.{is_there, next_item}
use Rattle.floyd_predicates.proofs.judging.after_preds.Goals as goal
use Rattle.floyd_predicates.proofs.judging.after_preds.Goals.{in-Some+in_ok-pred_refusal, in_default}

pub items-preserved : goal.items-preserved
items-preserved c =
    let items = c.args.defs.now.preds in
    let f = pred_refusal c.args.defs.now c.args.file in
    let i = c.items.i in
    let within : i < length items = omega (arith, c.items-test.true, c.len-i-end.ensures) in
    elim c.match-at.branch [
      | in-Some+in_ok-pred_refusal w ↦
          ap (λ r. earliest r (map f (drop (i + 1) items))) (w.found-is ∙ w.sooner-found.ensures ∙ ap (sooner c.items.found) w.in_ok-pred_refusal.ensures)
          ∙ sym (next_item f items i (w.in-Some.name.now, w.in-Some.item.now) c.items.found (sym w.in-Some.ensures))
          ∙ c.items.invariant
      | in_default w ↦ absurd (is_there items i within (sym w.in_default.ensures))
    ]
