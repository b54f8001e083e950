use Rattle.std.proofs.Common.{List, ap, sym, ◌∙◌}
use Rattle.floyd_termread_scope.specs.Scopes.{sort_of}
use Rattle.floyd_assert_trees.specs.declared.binder.Binder.{Binder}
use Rattle.floyd_termread_assertions.specs.BoundClauses.{bound_by_all}
use Rattle.floyd_termread_assertions.proofs.existentials.bind_all.Goals as goal

pub binders-preserved : goal.binders-preserved
binders-preserved c =
    ap (bound_by_all c.in-Some.more.now) c.in_ok-bind_one.ensures ∙ sym (ap (λ (xs : List Binder). bound_by_all xs (sort_of c.binders.bound)) c.in-Some.ensures.cases.0) ∙ c.binders.invariant
