use Rattle.std.proofs.Common.{◌≡◌, ◌+◌, ◌*◌, drop}
use Rattle.floyd_tree.specs.Plain.{plains, height, heights}
use Rattle.tests_pure.specs.Known.{terms_known}
use Rattle.tests_pure.proofs.known.+term_known.Given as goal

abbrev pub decreases-term_known : goal.decreases-term_known
decreases-term_known l = 2 * height l.t.now

abbrev pub decreases-terms_known : goal.decreases-terms_known
decreases-terms_known l = 2 * heights (plains l.terms.now) + 1

abbrev pub invariant-terms_known-terms : goal.invariant-terms_known-terms
invariant-terms_known-terms l = terms_known l.binders (plains (drop l.term-index l.terms)) ≡ terms_known l.binders (plains l.terms)
