use Rattle.std.proofs.Common.{◌≡◌, map, drop}
use Rattle.floyd_check_stub.specs.Forms.{texts}
use Rattle.floyd_check_stub.specs.LeftClauses.{left}
use Rattle.floyd_check_stub.specs.ReadingClauses.{after_all}
use Rattle.floyd_check_stub.proofs.word.after_all.Given as goal

abbrev pub invariant-words : goal.invariant-words
invariant-words l = after_all (map (λ w. w.now) (drop l.word-index l.words)) (texts (left l.rest)) ≡ after_all (map (λ w. w.now) l.words) (texts (left l.tokens))
