use Rattle.std.proofs.Common.{◌≡◌, [], length}
use Rattle.floyd_symexpr_rows.specs.Formulas.{saying}
use Rattle.floyd_control.specs.ForwardSwitch.{labels_of, no_labels}
use Rattle.floyd_control.proofs.choosing.no_labels.Given as goal

abbrev pub decreases-cases : goal.decreases-cases
decreases-cases g l = length l.rest

abbrev pub invariant-cases : goal.invariant-cases
invariant-cases g l = saying l.all (no_labels l.a (labels_of l.rest)) ≡ saying [] (no_labels l.a (labels_of l.cases))
