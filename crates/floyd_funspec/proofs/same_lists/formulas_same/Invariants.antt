use Rattle.std.proofs.Common.{◌≡◌, ◌↔◌, drop, length}
use Rattle.floyd_assert.specs.AroundClauses.{binders}
use Rattle.floyd_assert_meaning.specs.Same.{Pairwise}
use Rattle.floyd_truth.specs.Same.{SameUnder}
use Rattle.floyd_funspec.proofs.same_lists.formulas_same.Given as goal

abbrev pub invariant-formulas : goal.invariant-formulas
invariant-formulas l = record {
  same : length l.a ≡ length l.b;
  rest : Pairwise (SameUnder (binders l.around)) (drop l.i l.a) (drop l.i l.b) ↔ Pairwise (SameUnder (binders l.around)) l.a l.b;
}
