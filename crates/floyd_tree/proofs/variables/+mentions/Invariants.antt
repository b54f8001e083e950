use Rattle.std.proofs.Common.{◌≡◌, ◌+◌, ◌*◌, drop}
use Rattle.floyd_tree.specs.Plain.{plains, height, heights, mentions_in}
use Rattle.floyd_tree.proofs.variables.+mentions.Given as goal

abbrev pub decreases-mentions_bit : goal.decreases-mentions_bit
decreases-mentions_bit l = 2 * height l.t.now

abbrev pub decreases-mentions_in : goal.decreases-mentions_in
decreases-mentions_in l = 2 * heights (plains l.terms.now) + 1

abbrev pub invariant-mentions_in-terms : goal.invariant-mentions_in-terms
invariant-mentions_in-terms l = mentions_in l.x (plains (drop l.term-index l.terms)) ≡ mentions_in l.x (plains l.terms)
