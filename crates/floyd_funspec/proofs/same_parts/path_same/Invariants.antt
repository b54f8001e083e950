use Rattle.std.proofs.Common.{◌≡◌, ◌↔◌, drop, length}
use Rattle.floyd_assert.specs.AroundClauses.{binders}
use Rattle.floyd_assert_meaning.specs.Same.{Pairwise, StepsAgree}
use Rattle.floyd_truth.specs.Same.{SameTerm}
use Rattle.floyd_funspec.proofs.same_parts.path_same.Given as goal

abbrev pub invariant-steps : goal.invariant-steps
invariant-steps l = record {
  same : length l.a ≡ length l.b;
  rest : Pairwise (StepsAgree (SameTerm (binders l.around))) (drop l.i l.a) (drop l.i l.b) ↔ Pairwise (StepsAgree (SameTerm (binders l.around))) l.a l.b;
}
