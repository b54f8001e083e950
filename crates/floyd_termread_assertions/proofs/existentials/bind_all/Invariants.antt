use Rattle.std.proofs.Common.{◌≡◌, length}
use Rattle.floyd_termread_scope.specs.Scopes.{sort_of}
use Rattle.floyd_termread_assertions.specs.BoundClauses.{bound_by_all}
use Rattle.floyd_termread_assertions.proofs.existentials.bind_all.Given as goal

abbrev pub decreases-binders : goal.decreases-binders
decreases-binders l = length l.rest

abbrev pub invariant-binders : goal.invariant-binders
invariant-binders l = bound_by_all l.rest (sort_of l.bound) ≡ bound_by_all l.binders (sort_of l.initial.bound)
