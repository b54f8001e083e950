use Rattle.std.proofs.Common.{◌≡◌, ◌+◌, ◌-◌, ◌≤◌, length, drop, option_map}
use Rattle.floyd_lex.specs.Front.{comment_len}
use Rattle.floyd_lex.proofs.front.comment_len.Given as goal

abbrev pub invariant-each : goal.invariant-each
invariant-each l = record {
  within : l.n ≤ length l.bytes;
  rest : option_map (λ n. n + l.n) (comment_len (drop l.n l.bytes)) ≡ comment_len l.bytes;
}

abbrev pub decreases-each : goal.decreases-each
decreases-each l = length l.bytes - l.n
