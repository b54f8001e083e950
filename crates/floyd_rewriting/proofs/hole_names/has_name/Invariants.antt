use Rattle.std.proofs.Common.{◌≡◌, drop}
use Rattle.floyd_assert_changes.specs.Changed.{has_name}
use Rattle.floyd_rewriting.proofs.hole_names.has_name.Given as goal

abbrev pub invariant-binders : goal.invariant-binders
invariant-binders l = has_name l.x (drop l.binder-index l.binders) ≡ has_name l.x l.binders
