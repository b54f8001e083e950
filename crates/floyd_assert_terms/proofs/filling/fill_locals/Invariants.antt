use Rattle.std.proofs.Common.{◌≡◌, ◌++◌, drop}
use Rattle.floyd_assert_terms.specs.FillClauses.{fill_all, fill_local}
use Rattle.floyd_assert_terms.proofs.filling.fill_locals.Given as goal

abbrev pub invariant-locals : goal.invariant-locals
invariant-locals l = record {
  made : l.all.items ++ (fill_all fill_local (drop l.local-index l.locals) l.left).0 ≡ (fill_all fill_local l.locals l.terms).0;
  rest : (fill_all fill_local (drop l.local-index l.locals) l.left).1 ≡ (fill_all fill_local l.locals l.terms).1;
}
