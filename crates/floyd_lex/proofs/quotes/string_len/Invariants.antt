use Rattle.std.proofs.Common.{◌≡◌, ◌+◌, drop, option_map}
use Rattle.floyd_lex.specs.Quotes.{string_len}
use Rattle.floyd_lex.proofs.quotes.string_len.Given as goal

abbrev pub invariant-each : goal.invariant-each
invariant-each l = option_map (λ n. n + l.at) (string_len l.before (drop l.at l.bytes)) ≡ string_len 34 l.bytes
