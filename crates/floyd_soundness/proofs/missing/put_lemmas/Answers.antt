use Rattle.std.proofs.Common.{◌+◌, ◌<◌, ◌++◌, drop, length, sym, ◌∙◌, ap, arith}
use Rattle.std.specs.List.{flat_map}
use Rattle.floyd_soundness.specs.KeyClauses.{knows}
use Rattle.floyd_soundness.specs.Unproved.{missing_lemma}
use Rattle.floyd_soundness.proofs.Lists.{is_there, next_item}
use Rattle.floyd_soundness.proofs.missing.put_lemmas.Goals as goal
use Rattle.floyd_soundness.proofs.missing.put_lemmas.Goals.{in-Some+in_ok-put_lemma, in_default}

pub items-preserved : goal.items-preserved
items-preserved c =
    let items = c.args.lemmas.now in
    let i = c.items.i in
    let f = missing_lemma c.args.home (knows c.args.proved.now) in
    let within : i < length items = omega (arith, c.items-test.true, c.len-i-end.ensures) in
    elim c.match-at.branch [
      | in-Some+in_ok-put_lemma w ↦
          ap (λ all. all ++ flat_map f (drop (i + 1) items)) (w.all-is ∙ w.in_ok-put_lemma.ensures)
          ∙ sym (next_item f items i (w.in-Some.name.now, w.in-Some.lemma.now) c.items.all (sym w.in-Some.ensures))
          ∙ c.items.invariant
      | in_default w ↦ absurd (is_there items i within (sym w.in_default.ensures))
    ]
