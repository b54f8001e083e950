use Rattle.std.proofs.Common.{take}
use Rattle.floyd_truth.specs.Capture.{Changes}
use Rattle.floyd_assert_changes.specs.Changed.{below_existentials}
use Rattle.floyd_assert_changes.specs.ChangesClauses.{IsStill}
use Rattle.floyd_assert_changes.proofs.prepare.existential_bits.Given as goal

abbrev pub invariant-existentials : goal.invariant-existentials
invariant-existentials l = (changes : Changes) → IsStill l.bits changes → IsStill l.all (below_existentials changes (take l.i l.old) (take l.i l.new))
