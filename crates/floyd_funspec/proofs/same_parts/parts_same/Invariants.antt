use Rattle.std.proofs.Common.{◌≡◌, ◌↔◌, drop, length}
use Rattle.floyd_assert.specs.AroundClauses.{binders}
use Rattle.floyd_assert_meaning.specs.Same.{Pairwise, SamePart}
use Rattle.floyd_funspec.proofs.same_parts.parts_same.Given as goal

abbrev pub invariant-parts : goal.invariant-parts
invariant-parts l = record {
  same : length l.a ≡ length l.b;
  rest : Pairwise (SamePart (binders l.around)) (drop l.i l.a) (drop l.i l.b) ↔ Pairwise (SamePart (binders l.around)) l.a l.b;
}
