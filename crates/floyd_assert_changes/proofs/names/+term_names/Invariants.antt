use Rattle.std.proofs.Common.{◌≡◌, ◌+◌, ◌*◌, drop}
use Rattle.floyd_tree.specs.Plain.{plains, height, heights}
use Rattle.floyd_assert_changes.specs.NamesClauses.{terms_names}
use Rattle.floyd_assert_changes.proofs.names.+term_names.Given as goal

abbrev pub decreases-add_term : goal.decreases-add_term
decreases-add_term l = 2 * height l.t.now

abbrev pub decreases-add_terms : goal.decreases-add_terms
decreases-add_terms l = 2 * heights (plains l.terms.now) + 1

abbrev pub invariant-add_terms-terms : goal.invariant-add_terms-terms
invariant-add_terms-terms l = terms_names (plains (drop l.term-index l.terms)) l.names ≡ terms_names (plains l.terms) l.initial.names
