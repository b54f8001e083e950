use Rattle.std.proofs.Common.{◌≡◌, length}
use Rattle.floyd_clight.specs.Words.{next_word}
use Rattle.floyd_show.proofs.next.put_next.Given as goal

abbrev pub decreases-statements : goal.decreases-statements
decreases-statements l = length l.left

abbrev pub invariant-statements : goal.invariant-statements
invariant-statements l = (next_word l.left ≡ next_word l.rest) × (l.out ≡ l.initial.out)
