use Rattle.std.proofs.Common.{◌≡◌, ◌+◌, ◌-◌}
use Rattle.floyd_truth.specs.Capture.{most_marks, unmarked_from}
use Rattle.floyd_assert_changes.specs.NamesClauses.{has}
use Rattle.floyd_assert_changes.proofs.fresh.unmarked.Given as goal

abbrev pub invariant-marks : goal.invariant-marks
invariant-marks l = unmarked_from (has l.names) l.x most_marks 1 ≡ unmarked_from (has l.names) l.x (most_marks - l.i) (l.i + 1)
