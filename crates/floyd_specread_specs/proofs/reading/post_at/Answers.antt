use Rattle.std.proofs.Common.{ℕ, List, Ok, Err, refl, ap, ◌∙◌}
use Rattle.floyd_assert_trees.specs.declared.binder.Binder.{Binder}
use Rattle.floyd_assert_trees.specs.declared.spec.Postcondition.{Postcondition}
use Rattle.floyd_termread_scope.specs.Scopes.{env, sort_of}
use Rattle.floyd_termread_assertions.specs.BoundClauses.{bound_by_all}
use Rattle.floyd_termread_assertions.proofs.BoundLemmas.{same_env, under_is}
use Rattle.floyd_specread_specs.specs.Specifications as specs
use Rattle.floyd_termread_parts.proofs.Chains.{stopped}
use Rattle.floyd_specread_specs.proofs.reading.post_at.Goals as goal

pub returns-in_err-existentials-clause-exact : goal.returns-in_err-existentials-clause-exact
returns-in_err-existentials-clause-exact c =
    stopped (λ (x : Postcondition × ℕ). x) (specs.post c.args.text.bytes.now c.args.text.tokens.now (env c.args.scope.now c.args.bound.now) c.args.ty.now c.args.at) c.from_residual.result c.in_err-existentials.field-0.0 c.from_residual.ensures.1
    (λ refusal e. (Err refusal, rw e at c.in_err-existentials.ensures.exact, refl))

pub returns-in_err-props-clause-exact : goal.returns-in_err-props-clause-exact
returns-in_err-props-clause-exact c =
    stopped (λ (x : Postcondition × ℕ). x) (specs.post c.args.text.bytes.now c.args.text.tokens.now (env c.args.scope.now c.args.bound.now) c.args.ty.now c.args.at) c.from_residual-in_err-props.result c.in_err-props.field-0.0 c.from_residual-in_err-props.ensures.1
    (λ refusal e. (Ok (c.in_ok-existentials.existentials, c.in_ok-existentials.first), c.in_ok-existentials.ensures.exact, (Err refusal, rw (e, under_is c.args.scope.now c.in_ok-existentials.existentials c.args.bound.now c.bind_all.new.bound (c.in_ok-bind_all.ensures ∙ ap (λ (bs : List Binder). bound_by_all bs (sort_of c.args.bound.now)) c.as_slice.ensures)) at c.in_err-props.ensures.exact, refl)))

pub returns-in_err-value-clause-exact : goal.returns-in_err-value-clause-exact
returns-in_err-value-clause-exact c =
    stopped (λ (x : Postcondition × ℕ). x) (specs.post c.args.text.bytes.now c.args.text.tokens.now (env c.args.scope.now c.args.bound.now) c.args.ty.now c.args.at) c.from_residual-in_err-value.result c.in_err-value.field-0.0 c.from_residual-in_err-value.ensures.1
    (λ refusal e. (Ok (c.in_ok-existentials.existentials, c.in_ok-existentials.first), c.in_ok-existentials.ensures.exact, (Ok (c.in_ok-props.props, c.in_ok-props.second), rw (under_is c.args.scope.now c.in_ok-existentials.existentials c.args.bound.now c.bind_all.new.bound (c.in_ok-bind_all.ensures ∙ ap (λ (bs : List Binder). bound_by_all bs (sort_of c.args.bound.now)) c.as_slice.ensures)) at c.in_ok-props.ensures.exact, (Err refusal, rw (e, same_env c.args.scope.now c.props_at.new.bound c.bind_all.new.bound c.in_ok-props.ensures.kept, under_is c.args.scope.now c.in_ok-existentials.existentials c.args.bound.now c.bind_all.new.bound (c.in_ok-bind_all.ensures ∙ ap (λ (bs : List Binder). bound_by_all bs (sort_of c.args.bound.now)) c.as_slice.ensures)) at c.in_err-value.ensures.exact, refl))))

pub returns-clause-exact : goal.returns-clause-exact
returns-clause-exact c =
    (Ok (c.in_ok-existentials.existentials, c.in_ok-existentials.first), c.in_ok-existentials.ensures.exact, (Ok (c.in_ok-props.props, c.in_ok-props.second), rw (under_is c.args.scope.now c.in_ok-existentials.existentials c.args.bound.now c.bind_all.new.bound (c.in_ok-bind_all.ensures ∙ ap (λ (bs : List Binder). bound_by_all bs (sort_of c.args.bound.now)) c.as_slice.ensures)) at c.in_ok-props.ensures.exact, (Ok ((c.in_ok-value.value, c.in_ok-value.parts), c.in_ok-value.behind), rw (same_env c.args.scope.now c.props_at.new.bound c.bind_all.new.bound c.in_ok-props.ensures.kept, under_is c.args.scope.now c.in_ok-existentials.existentials c.args.bound.now c.bind_all.new.bound (c.in_ok-bind_all.ensures ∙ ap (λ (bs : List Binder). bound_by_all bs (sort_of c.args.bound.now)) c.as_slice.ensures)) at c.in_ok-value.ensures.exact, refl)))
