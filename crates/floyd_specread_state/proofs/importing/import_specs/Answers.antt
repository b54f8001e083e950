use Rattle.std.proofs.Common.{◌+◌, ◌<◌, drop, length, sym, ◌∙◌, ap, arith}
use Rattle.floyd_specread_state.specs.States.{with_specs}
use Rattle.floyd_specread_state.proofs.Orders.{is_there, next_spec}
use Rattle.floyd_specread_state.proofs.importing.import_specs.Goals as goal
use Rattle.floyd_specread_state.proofs.importing.import_specs.Goals.{in-Some+in_ok-import_spec, in_default}

pub items-preserved : goal.items-preserved
items-preserved c =
    let items = c.args.items.now in
    let i = c.items.i in
    let within : i < length items = omega (arith, c.items-test.true, c.len-i-end.ensures) in
    elim c.match-at.branch [
      | in-Some+in_ok-import_spec w ↦
          ap (with_specs (drop (i + 1) items)) (w.state-is ∙ w.in_ok-import_spec.ensures)
          ∙ sym (next_spec items i (w.in-Some.name.now, w.in-Some.spec.now) c.items.state (sym w.in-Some.ensures))
          ∙ c.items.invariant
      | in_default w ↦ absurd (is_there items i within (sym w.in_default.ensures))
    ]
