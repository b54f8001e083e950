use Rattle.std.proofs.Common.{◌≡◌, ◌+◌, ◌*◌, ◌++◌, drop}
use Rattle.floyd_tree.specs.Plain.{plains, height, heights}
use Rattle.floyd_show_terms.specs.Terms.{all_written, following, kid_texts, term_texts}
use Rattle.floyd_show_terms.proofs.terms.+terms.Given as goal

abbrev pub decreases-put_term : goal.decreases-put_term
decreases-put_term l = 8 * height l.term.now + 1

abbrev pub decreases-put_items : goal.decreases-put_items
decreases-put_items l = 8 * height l.list.now

abbrev pub decreases-put_framed : goal.decreases-put_framed
decreases-put_framed l = 8 * heights (plains l.kids.now) + 7

abbrev pub decreases-put_kid : goal.decreases-put_kid
decreases-put_kid l = 8 * height l.kid.now + 2

abbrev pub decreases-put_kids : goal.decreases-put_kids
decreases-put_kids l = 8 * heights (plains l.kids.now) + 6

abbrev pub decreases-put_behind : goal.decreases-put_behind
decreases-put_behind l = 8 * heights (plains l.kids.now) + 5

abbrev pub decreases-texts_of : goal.decreases-texts_of
decreases-texts_of l = 8 * heights (plains l.terms.now) + 7

-- what was put, and what is left to put
abbrev pub invariant-put_behind-kids : goal.invariant-put_behind-kids
invariant-put_behind-kids l =
    l.out ++ following l.mark (kid_texts l.enclosed (all_written (plains (drop l.kid-index l.kids)))) ≡ l.initial.out ++ following l.mark (kid_texts l.enclosed (all_written (plains l.kids)))

abbrev pub invariant-texts_of-terms : goal.invariant-texts_of-terms
invariant-texts_of-terms l = l.texts.items ++ term_texts (plains (drop l.term-index l.terms)) ≡ term_texts (plains l.terms)
