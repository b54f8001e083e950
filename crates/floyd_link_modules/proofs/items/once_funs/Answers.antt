use Rattle.std.proofs.Common.{◌+◌, ◌<◌, drop, length, sym, ◌∙◌, ap, arith}
use Rattle.floyd_specread_sources.specs.Tables.{joined}
use Rattle.floyd_specread_sources.proofs.TableLemmas.{next_joined}
use Rattle.floyd_specread_state.proofs.Orders.{is_there}
use Rattle.floyd_link_modules.proofs.items.once_funs.Goals as goal
use Rattle.floyd_link_modules.proofs.items.once_funs.Goals.{in-Some+in_ok-put_fun, in_default}

pub items-preserved : goal.items-preserved
items-preserved c =
    let items = c.args.items.now in
    let i = c.items.i in
    let within : i < length items = omega (arith, c.items-test.true, c.len-i-end.ensures) in
    elim c.match-at.branch [
      | in-Some+in_ok-put_fun w ↦
          ap (joined (drop (i + 1) items)) (w.all-is ∙ w.in_ok-put_fun.ensures)
          ∙ sym (next_joined items c.items.all i (w.in-Some.name.now, w.in-Some.item.now) (sym w.in-Some.ensures))
          ∙ c.items.invariant
      | in_default w ↦ absurd (is_there items i within (sym w.in_default.ensures))
    ]
