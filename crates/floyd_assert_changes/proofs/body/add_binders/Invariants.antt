use Rattle.std.proofs.Common.{◌≡◌, drop}
use Rattle.floyd_assert_changes.specs.BodyClauses.{binders_names}
use Rattle.floyd_assert_changes.proofs.body.add_binders.Given as goal

abbrev pub invariant-binders : goal.invariant-binders
invariant-binders l = binders_names (drop l.binder-index l.binders) l.names ≡ binders_names l.binders l.initial.names
