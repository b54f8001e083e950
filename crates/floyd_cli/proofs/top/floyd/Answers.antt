use Rattle.std.proofs.Common.{map, subst}
use Rattle.std.specs.String.{string_bytes}
use Rattle.floyd_text.specs.Outside.{Rose}
use Rattle.floyd_cli.specs.Causes.{Causes}
use Rattle.floyd_cli.proofs.Exact.{done_sound, exactly}
use Rattle.floyd_cli.proofs.top.floyd.Goals as goal

pub returns-clause-sound : goal.returns-clause-sound
returns-clause-sound g c =
    let held = g.H.Shelf.held c.args.shelf.now in
    let shelf = Rose (g.H.Shelf.faults c.args.shelf.now) (g.H.Shelf.faults c.answer_words.new.shelf) in
    let sink = Rose (g.K.Sink.faults c.args.out.now) (g.K.Sink.faults c.answer_words.new.out) in
    let old = g.K.Sink.written c.args.out.now in
    let new = g.K.Sink.written c.answer_words.new.out in
    done_sound (map string_bytes c.args.words.now.items) held shelf sink old new c.answer_words.result
    (subst (λ ws. Causes (map string_bytes ws) held shelf sink old new c.answer_words.result) c.as_slice.ensures.value c.answer_words.ensures.causes)

pub returns-clause-exact : goal.returns-clause-exact
returns-clause-exact g c =
    let held = g.H.Shelf.held c.args.shelf.now in
    let shelf = Rose (g.H.Shelf.faults c.args.shelf.now) (g.H.Shelf.faults c.answer_words.new.shelf) in
    let sink = Rose (g.K.Sink.faults c.args.out.now) (g.K.Sink.faults c.answer_words.new.out) in
    let old = g.K.Sink.written c.args.out.now in
    let new = g.K.Sink.written c.answer_words.new.out in
    exactly (map string_bytes c.args.words.now.items) held shelf sink old new c.answer_words.result
    (subst (λ ws. Causes (map string_bytes ws) held shelf sink old new c.answer_words.result) c.as_slice.ensures.value c.answer_words.ensures.causes)
