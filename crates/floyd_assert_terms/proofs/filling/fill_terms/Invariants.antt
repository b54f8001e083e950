use Rattle.std.proofs.Common.{◌≡◌, ◌++◌, drop}
use Rattle.floyd_assert_terms.specs.FillClauses.{fill_all, fill_term}
use Rattle.floyd_assert_terms.proofs.filling.fill_terms.Given as goal

abbrev pub invariant-terms : goal.invariant-terms
invariant-terms l = record {
  made : l.all.items ++ (fill_all fill_term (drop l.term-index l.old) l.left).0 ≡ (fill_all fill_term l.old l.terms).0;
  rest : (fill_all fill_term (drop l.term-index l.old) l.left).1 ≡ (fill_all fill_term l.old l.terms).1;
}
