use Rattle.std.proofs.Common.{◌≡◌, ◌+◌, ◌-◌}
use Rattle.floyd_truth.specs.Capture.{most_marks}
use Rattle.floyd_rewriting.specs.Holes.{first_free, is_there}
use Rattle.floyd_rewriting.proofs.hole_names.hole_name.Given as goal

abbrev pub invariant-marks : goal.invariant-marks
invariant-marks l = first_free (is_there l.from l.binders l.props l.terms) most_marks 1 ≡ first_free (is_there l.from l.binders l.props l.terms) (most_marks - l.i) (l.i + 1)
