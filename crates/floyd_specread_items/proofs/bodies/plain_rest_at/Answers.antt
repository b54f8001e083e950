use Rattle.std.proofs.Common.{ℕ, Ok, Err, refl}
use Rattle.floyd_assert_trees.specs.declared.assertion.Assertion.{Assertion}
use Rattle.floyd_termread_scope.specs.Scopes.{env}
use Rattle.floyd_termread_assertions.proofs.BoundLemmas.{same_env}
use Rattle.floyd_specread_items.specs.Bodies as specs
use Rattle.floyd_termread_parts.proofs.Chains.{stopped}
use Rattle.floyd_specread_items.proofs.bodies.plain_rest_at.Goals as goal

pub returns-in_err-parts-clause-exact : goal.returns-in_err-parts-clause-exact
returns-in_err-parts-clause-exact c =
    stopped (λ (x : Assertion × ℕ). x) (specs.plain_rest c.args.text.bytes.now c.args.text.tokens.now c.args.existentials (env c.args.scope.now c.args.bound.now) c.args.at) c.from_residual-in_err-parts.result c.in_err-parts.field-0.0 c.from_residual-in_err-parts.ensures.1
    (λ refusal e. (Ok (c.in_ok-props.props, c.in_ok-props.first), c.in_ok-props.ensures.exact, (Err refusal, rw (e, same_env c.args.scope.now c.props_at.new.bound c.args.bound.now c.in_ok-props.ensures.kept) at c.in_err-parts.ensures.exact, refl)))

pub returns-clause-exact : goal.returns-clause-exact
returns-clause-exact c =
    (Ok (c.in_ok-props.props, c.in_ok-props.first), c.in_ok-props.ensures.exact, (Ok (c.in_ok-parts.parts, c.in_ok-parts.behind), rw (same_env c.args.scope.now c.props_at.new.bound c.args.bound.now c.in_ok-props.ensures.kept) at c.in_ok-parts.ensures.exact, rw c.new.ensures refl))
