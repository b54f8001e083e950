use Rattle.std.proofs.Common.{◌≡◌, length}
use Rattle.floyd_elab_names.specs.WrapClauses.{wrap_all as wrapped_lem}
use Rattle.floyd_elab_names.proofs.wraps.wrap_all.Given as goal

abbrev pub decreases-wraps : goal.decreases-wraps
decreases-wraps l = length l.wraps

abbrev pub invariant-wraps : goal.invariant-wraps
invariant-wraps l = wrapped_lem l.wraps l.t ≡ wrapped_lem l.initial.wraps l.initial.t
