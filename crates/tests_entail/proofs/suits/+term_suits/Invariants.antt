use Rattle.std.proofs.Common.{◌≡◌, ◌+◌, ◌*◌, drop}
use Rattle.floyd_tree.specs.Plain.{plains, height, heights}
use Rattle.tests_entail.specs.Suits.{terms_suit}
use Rattle.tests_entail.proofs.suits.+term_suits.Given as goal

abbrev pub decreases-term_suits : goal.decreases-term_suits
decreases-term_suits l = 2 * height l.t.now

abbrev pub decreases-terms_suit : goal.decreases-terms_suit
decreases-terms_suit l = 2 * heights (plains l.terms.now) + 1

abbrev pub invariant-terms_suit-terms : goal.invariant-terms_suit-terms
invariant-terms_suit-terms l = terms_suit l.binders (plains (drop l.term-index l.terms)) ≡ terms_suit l.binders (plains l.terms)
