use Rattle.std.proofs.Common.{◌≡◌, drop}
use Rattle.floyd_assert_changes.specs.ChangesClauses.{bits_onto}
use Rattle.floyd_assert_changes.proofs.prepare.put_bits.Given as goal

abbrev pub invariant-pairs : goal.invariant-pairs
invariant-pairs l = bits_onto l.bits (drop l.pair-index l.by) ≡ bits_onto 0 l.by
