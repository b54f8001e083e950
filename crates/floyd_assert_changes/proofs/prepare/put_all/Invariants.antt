use Rattle.std.proofs.Common.{◌≡◌, ◌++◌, drop}
use Rattle.floyd_assert_changes.specs.ChangesClauses.{changes_of}
use Rattle.floyd_truth.specs.Replace.{puts}
use Rattle.floyd_assert_changes.proofs.prepare.put_all.Given as goal

abbrev pub invariant-pairs : goal.invariant-pairs
invariant-pairs l = changes_of l.all.items ++ puts (drop l.pair-index l.by) ≡ puts l.by
