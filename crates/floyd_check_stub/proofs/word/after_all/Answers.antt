use Rattle.std.proofs.Common.{◌<◌, length, map, drop, sym, ap, ◌∙◌, arith}
use Rattle.std.proofs.lemmas.List.{length-drop}
use Rattle.floyd_check_stub.specs.ReadingClauses.{after_all}
use Rattle.floyd_check_stub.proofs.Texts.{none_left}
use Rattle.floyd_check_stub.proofs.word.after_all.Goals as goal

pub returns-in-None : goal.returns-in-None
returns-in-None c =
    let i = c.words.word-index in
    let some : 0 < length (drop i c.args.words.now) = omega (arith, length-drop i c.args.words.now) in
    sym (none_left (λ w. w.now) (drop i c.args.words.now) some) ∙ (ap (after_all (map (λ w. w.now) (drop i c.args.words.now))) (sym c.in-None.ensures.texts) ∙ c.words.invariant)
