use Rattle.std.proofs.Common.{ℕ, Ok, Err, refl}
use Rattle.floyd_assert_trees.specs.declared.spec.Precondition.{Precondition}
use Rattle.floyd_termread_scope.specs.Scopes.{env}
use Rattle.floyd_termread_assertions.proofs.BoundLemmas.{same_env}
use Rattle.floyd_specread_specs.specs.Specifications as specs
use Rattle.floyd_termread_parts.proofs.Chains.{stopped}
use Rattle.floyd_specread_specs.proofs.reading.pre_at.Goals as goal

pub returns-in_err-params-clause-exact : goal.returns-in_err-params-clause-exact
returns-in_err-params-clause-exact c =
    stopped (λ (x : Precondition × ℕ). x) (specs.pre c.args.text.bytes.now c.args.text.tokens.now (env c.args.scope.now c.args.bound.now) c.args.count c.args.at) c.from_residual-in_err-params.result c.in_err-params.field-0.0 c.from_residual-in_err-params.ensures.1
    (λ refusal e. (Ok (c.in_ok-props.props, c.in_ok-props.first), c.in_ok-props.ensures.exact, (Err refusal, rw (e, same_env c.args.scope.now c.props_at.new.bound c.args.bound.now c.in_ok-props.ensures.kept) at c.in_err-params.ensures.exact, refl)))

pub returns-in_err-globals-clause-exact : goal.returns-in_err-globals-clause-exact
returns-in_err-globals-clause-exact c =
    stopped (λ (x : Precondition × ℕ). x) (specs.pre c.args.text.bytes.now c.args.text.tokens.now (env c.args.scope.now c.args.bound.now) c.args.count c.args.at) c.from_residual-in_err-globals.result c.in_err-globals.field-0.0 c.from_residual-in_err-globals.ensures.1
    (λ refusal e. (Ok (c.in_ok-props.props, c.in_ok-props.first), c.in_ok-props.ensures.exact, (Ok (c.in_ok-params.params, c.in_ok-params.second), rw (same_env c.args.scope.now c.props_at.new.bound c.args.bound.now c.in_ok-props.ensures.kept) at c.in_ok-params.ensures.exact, (Err refusal, rw e at c.in_err-globals.ensures.exact, refl))))

pub returns-in_err-parts-clause-exact : goal.returns-in_err-parts-clause-exact
returns-in_err-parts-clause-exact c =
    stopped (λ (x : Precondition × ℕ). x) (specs.pre c.args.text.bytes.now c.args.text.tokens.now (env c.args.scope.now c.args.bound.now) c.args.count c.args.at) c.from_residual-in_err-parts.result c.in_err-parts.field-0.0 c.from_residual-in_err-parts.ensures.1
    (λ refusal e. (Ok (c.in_ok-props.props, c.in_ok-props.first), c.in_ok-props.ensures.exact, (Ok (c.in_ok-params.params, c.in_ok-params.second), rw (same_env c.args.scope.now c.props_at.new.bound c.args.bound.now c.in_ok-props.ensures.kept) at c.in_ok-params.ensures.exact, (Ok (c.in_ok-globals.globals, c.in_ok-globals.third), c.in_ok-globals.ensures.exact, (Err refusal, rw (e, same_env c.args.scope.now c.props_at.new.bound c.args.bound.now c.in_ok-props.ensures.kept) at c.in_err-parts.ensures.exact, refl)))))

pub returns-clause-exact : goal.returns-clause-exact
returns-clause-exact c =
    (Ok (c.in_ok-props.props, c.in_ok-props.first), c.in_ok-props.ensures.exact, (Ok (c.in_ok-params.params, c.in_ok-params.second), rw (same_env c.args.scope.now c.props_at.new.bound c.args.bound.now c.in_ok-props.ensures.kept) at c.in_ok-params.ensures.exact, (Ok (c.in_ok-globals.globals, c.in_ok-globals.third), c.in_ok-globals.ensures.exact, (Ok (c.in_ok-parts.parts, c.in_ok-parts.behind), rw (same_env c.args.scope.now c.props_at.new.bound c.args.bound.now c.in_ok-props.ensures.kept) at c.in_ok-parts.ensures.exact, refl))))
