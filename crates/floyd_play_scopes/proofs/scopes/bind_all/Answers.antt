use Rattle.std.proofs.Common.{List, ap, sym, ◌∙◌}
use Rattle.floyd_termread_scope.specs.Scopes.{sort_of}
use Rattle.floyd_assert_trees.specs.declared.binder.Binder.{Binder}
use Rattle.floyd_play_scopes.specs.GoalScopes.{with_binders}
use Rattle.floyd_play_scopes.proofs.scopes.bind_all.Goals as goal

pub binders-preserved : goal.binders-preserved
binders-preserved c =
    ap (with_binders c.in-Some.more.now) c.in_ok-bind_one.ensures ∙ sym (ap (λ (xs : List Binder). with_binders xs (sort_of c.binders.variables)) c.in-Some.ensures.cases.0) ∙ c.binders.invariant
