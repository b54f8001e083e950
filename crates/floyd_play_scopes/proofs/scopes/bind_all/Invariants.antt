use Rattle.std.proofs.Common.{◌≡◌, length}
use Rattle.floyd_termread_scope.specs.Scopes.{sort_of}
use Rattle.floyd_play_scopes.specs.GoalScopes.{with_binders}
use Rattle.floyd_play_scopes.proofs.scopes.bind_all.Given as goal

abbrev pub decreases-binders : goal.decreases-binders
decreases-binders l = length l.rest

abbrev pub invariant-binders : goal.invariant-binders
invariant-binders l = with_binders l.rest (sort_of l.variables) ≡ with_binders l.binders (sort_of l.initial.variables)
