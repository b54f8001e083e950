use Rattle.std.proofs.Common.{◌≡◌}
use Rattle.floyd_elab_names.specs.Declarators.{pointers as pointers_lem}
use Rattle.floyd_elab_names.proofs.wraps.pointers.Given as goal

abbrev pub decreases-stars : goal.decreases-stars
decreases-stars l = l.left

abbrev pub invariant-stars : goal.invariant-stars
invariant-stars l = pointers_lem l.left l.t ≡ pointers_lem l.initial.left l.initial.t
