use Rattle.std.proofs.Common.{◌≡◌, ◌++◌, drop}
use Rattle.floyd_assert_terms.proofs.collecting.push_terms.Given as goal

abbrev pub invariant-terms : goal.invariant-terms
invariant-terms l = l.all.items ++ drop l.term-index l.terms ≡ l.initial.all.items ++ l.terms
