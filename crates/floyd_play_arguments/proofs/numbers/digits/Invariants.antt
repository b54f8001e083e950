use Rattle.std.proofs.Common.{◌≡◌, ◌≤◌, length}
use Rattle.floyd_play_arguments.specs.Numbers.{last, capped, digits_behind}
use Rattle.floyd_play_arguments.proofs.numbers.digits.Given as goal

abbrev pub decreases-digits : goal.decreases-digits
decreases-digits l = length l.rest

abbrev pub invariant-digits : goal.invariant-digits
invariant-digits l = record {
  small : l.number ≤ last;
  so_far : capped (digits_behind l.number l.rest) ≡ capped (digits_behind 0 l.text);
}
