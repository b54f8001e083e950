use Rattle.std.proofs.Common.{◌≡◌, ◌++◌, drop}
use Rattle.floyd_assert_terms.specs.FillClauses.{fill_all, fill_part}
use Rattle.floyd_assert_terms.proofs.filling.fill_parts.Given as goal

abbrev pub invariant-parts : goal.invariant-parts
invariant-parts l = l.all.items ++ (fill_all fill_part (drop l.part-index l.parts) l.left).0 ≡ (fill_all fill_part l.parts l.terms).0
