use Rattle.std.proofs.Common.{◌≡◌, ◌++◌, drop}
use Rattle.floyd_assert_terms.specs.FillClauses.{fill_all, fill_step}
use Rattle.floyd_assert_terms.proofs.filling.fill_path.Given as goal

abbrev pub invariant-steps : goal.invariant-steps
invariant-steps l = record {
  made : l.all ++ (fill_all fill_step (drop l.place l.path) l.left).0 ≡ (fill_all fill_step l.path l.terms).0;
  rest : (fill_all fill_step (drop l.place l.path) l.left).1 ≡ (fill_all fill_step l.path l.terms).1;
}
