use Rattle.std.proofs.Common.{◌+◌, ◌<◌, drop, length, sym, ◌∙◌, ap, arith}
use Rattle.floyd_specread_state.specs.States.{with_lemmas}
use Rattle.floyd_specread_state.proofs.Orders.{is_there, next_lemma}
use Rattle.floyd_specread_state.proofs.importing.import_lemmas.Goals as goal
use Rattle.floyd_specread_state.proofs.importing.import_lemmas.Goals.{in-Some+in_ok-import_lemma, in_default}

pub items-preserved : goal.items-preserved
items-preserved c =
    let items = c.args.lemmas.now in
    let i = c.items.i in
    let within : i < length items = omega (arith, c.items-test.true, c.len-i-end.ensures) in
    elim c.match-at.branch [
      | in-Some+in_ok-import_lemma w ↦
          ap (with_lemmas (drop (i + 1) items)) (w.state-is ∙ w.in_ok-import_lemma.ensures)
          ∙ sym (next_lemma items i (w.in-Some.name.now, w.in-Some.lemma.now) c.items.state (sym w.in-Some.ensures))
          ∙ c.items.invariant
      | in_default w ↦ absurd (is_there items i within (sym w.in_default.ensures))
    ]
