use Rattle.std.proofs.Common.{◌≡◌, length, drop}
use Rattle.floyd_assert_instances.specs.Instances.{have_sorts}
use Rattle.floyd_assert_instances.proofs.pairing.have_sorts.Given as goal

abbrev pub invariant-terms : goal.invariant-terms
invariant-terms l = (length l.binders ≡ length l.terms) × (have_sorts (drop l.i l.binders) (drop l.i l.terms) ≡ have_sorts l.binders l.terms)
