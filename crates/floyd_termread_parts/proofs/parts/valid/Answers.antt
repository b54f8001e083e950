use Rattle.std.proofs.Common.{ℕ, Ok, Err, refl}
use Rattle.floyd_termread_scope.specs.Scopes.{env}
use Rattle.floyd_assert_trees.specs.declared.sep.Sep.{Sep}
use Rattle.floyd_termread_parts.specs.Parts as parts
use Rattle.floyd_termread_parts.proofs.Chains.{stopped}
use Rattle.floyd_termread_parts.proofs.parts.valid.Goals as goal

pub returns-in_err-address-clause-exact : goal.returns-in_err-address-clause-exact
returns-in_err-address-clause-exact c =
    stopped (λ (x : Sep × ℕ). x) (parts.valid c.args.text.bytes.now c.args.text.tokens.now c.args.spot.depth (env c.args.scope.now c.args.bound.now) c.args.spot.at) c.from_residual-in_err-address.result c.in_err-address.field-0.0 c.from_residual-in_err-address.ensures.1 (λ refusal e. (Ok (c.in_ok-_open._open, c.in_ok-_open.first), c.in_ok-_open.ensures.exact, (Err refusal, rw e at c.in_err-address.ensures.exact, refl)))

pub returns-in_err-_close-clause-exact : goal.returns-in_err-_close-clause-exact
returns-in_err-_close-clause-exact c =
    stopped (λ (x : Sep × ℕ). x) (parts.valid c.args.text.bytes.now c.args.text.tokens.now c.args.spot.depth (env c.args.scope.now c.args.bound.now) c.args.spot.at) c.from_residual-in_err-_close.result c.in_err-_close.field-0.0 c.from_residual-in_err-_close.ensures.1 (λ refusal e. (Ok (c.in_ok-_open._open, c.in_ok-_open.first), c.in_ok-_open.ensures.exact, (Ok (c.in_ok-address.address, c.in_ok-address.end), c.in_ok-address.ensures.exact, (Err refusal, rw e at c.in_err-_close.ensures.exact, refl))))
