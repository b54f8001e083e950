use Rattle.std.proofs.Common.{◌≡◌}
use Rattle.floyd_specread_mentions.specs.Mentioned.{names_among}
use Rattle.floyd_specread_mentions.proofs.names.names_of.Given as goal

abbrev pub invariant-tokens : goal.invariant-tokens
invariant-tokens l = l.names ≡ names_among l.text.bytes.now l.text.tokens.now l.word l.i
