use Rattle.std.proofs.Common.{◌≡◌, ◌↔◌, drop, length}
use Rattle.floyd_assert.specs.AroundClauses.{binders}
use Rattle.floyd_assert_meaning.specs.Same.{Pairwise, SameType}
use Rattle.floyd_funspec.proofs.same_lists.types_same.Given as goal

abbrev pub invariant-types : goal.invariant-types
invariant-types l = record {
  same : length l.a ≡ length l.b;
  rest : Pairwise (SameType (binders l.around)) (drop l.i l.a) (drop l.i l.b) ↔ Pairwise (SameType (binders l.around)) l.a l.b;
}
