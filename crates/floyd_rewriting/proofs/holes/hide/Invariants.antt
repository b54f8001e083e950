use Rattle.std.proofs.Common.{◌≡◌, drop}
use Rattle.floyd_rewriting.specs.Occurrences.{hide}
use Rattle.floyd_rewriting.proofs.holes.hide.Given as goal

abbrev pub invariant-binders : goal.invariant-binders
invariant-binders l = hide l.from (drop l.binder-index l.binders) ≡ hide l.from l.binders
