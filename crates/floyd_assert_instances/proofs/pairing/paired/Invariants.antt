use Rattle.std.proofs.Common.{◌≡◌, ◌++◌, length, drop}
use Rattle.floyd_assert_instances.specs.Instances.{pairs}
use Rattle.floyd_assert_instances.proofs.pairing.paired.Given as goal

abbrev pub invariant-terms : goal.invariant-terms
invariant-terms l = (length l.binders ≡ length l.terms) × (l.all.items ++ pairs (drop l.i l.binders) (drop l.i l.terms) ≡ pairs l.binders l.terms)
