use Rattle.std.proofs.Common.{◌+◌, ◌<◌, drop, length, sym, ◌∙◌, ap, arith}
use Rattle.floyd_specread_state.specs.States.{with_preds}
use Rattle.floyd_specread_state.proofs.Orders.{is_there, next_pred}
use Rattle.floyd_specread_state.proofs.importing.import_preds.Goals as goal
use Rattle.floyd_specread_state.proofs.importing.import_preds.Goals.{in-Some+in_ok-import_pred, in_default}

pub items-preserved : goal.items-preserved
items-preserved c =
    let items = c.args.preds.now in
    let i = c.items.i in
    let within : i < length items = omega (arith, c.items-test.true, c.len-i-end.ensures) in
    elim c.match-at.branch [
      | in-Some+in_ok-import_pred w ↦
          ap (with_preds (drop (i + 1) items)) (w.state-is ∙ w.in_ok-import_pred.ensures)
          ∙ sym (next_pred items i (w.in-Some.name.now, w.in-Some.pred.now) c.items.state (sym w.in-Some.ensures))
          ∙ c.items.invariant
      | in_default w ↦ absurd (is_there items i within (sym w.in_default.ensures))
    ]
