use Rattle.std.proofs.Common.{◌+◌, ◌<◌, drop, length, sym, ◌∙◌, ap, arith}
use Rattle.floyd_specread_state.specs.States.{with_funs}
use Rattle.floyd_specread_state.proofs.Orders.{is_there, next_fun}
use Rattle.floyd_specread_state.proofs.importing.import_funs.Goals as goal
use Rattle.floyd_specread_state.proofs.importing.import_funs.Goals.{in-Some+in_ok-import_fun, in_default}

pub items-preserved : goal.items-preserved
items-preserved c =
    let items = c.args.funs.now in
    let i = c.items.i in
    let within : i < length items = omega (arith, c.items-test.true, c.len-i-end.ensures) in
    elim c.match-at.branch [
      | in-Some+in_ok-import_fun w ↦
          ap (with_funs (drop (i + 1) items)) (w.state-is ∙ w.in_ok-import_fun.ensures)
          ∙ sym (next_fun items i (w.in-Some.name.now, w.in-Some.fun.now) c.items.state (sym w.in-Some.ensures))
          ∙ c.items.invariant
      | in_default w ↦ absurd (is_there items i within (sym w.in_default.ensures))
    ]
