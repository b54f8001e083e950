use Rattle.std.proofs.Common.{◌≡◌}
use Rattle.floyd_specread_words.specs.Calls.{calls_from}
use Rattle.floyd_specread_words.proofs.calls.calls_between.Given as goal

abbrev pub invariant-tokens : goal.invariant-tokens
invariant-tokens l = l.places ≡ calls_from l.text.bytes.now l.text.tokens.now l.name l.from l.i
