use Rattle.std.proofs.Common.{◌≡◌, ◌+◌, ◌-◌, ◌≤◌, length, take}
use Rattle.std.specs.List.{suffix_len}
use Rattle.floyd_text.specs.Place.{is_other}
use Rattle.floyd_lex.proofs.lexer.bytes_on_last_line.Given as goal

-- what stands behind n is no line feed
abbrev pub invariant-back : goal.invariant-back
invariant-back l = record {
  within : l.n ≤ length l.bytes;
  rest : suffix_len is_other l.bytes ≡ length l.bytes - l.n + suffix_len is_other (take l.n l.bytes);
}

abbrev pub decreases-back : goal.decreases-back
decreases-back l = l.n
