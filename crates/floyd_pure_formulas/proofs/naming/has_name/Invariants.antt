use Rattle.std.proofs.Common.{◌≡◌, drop}
use Rattle.floyd_assert_changes.specs.Changed.{has_name}
use Rattle.floyd_pure_formulas.proofs.naming.has_name.Given as goal

abbrev pub invariant-binders : goal.invariant-binders
invariant-binders l = has_name l.name (drop l.binder-index l.binders) ≡ has_name l.name l.binders
