use Rattle.std.proofs.Common.{ℕ, Ok, Err, refl}
use Rattle.floyd_tree.specs.Types.{SizedType}
use Rattle.floyd_termread_scope.specs.Scopes.{env}
use Rattle.floyd_specread_specs.specs.Specifications as specs
use Rattle.floyd_termread_parts.proofs.Chains.{stopped}
use Rattle.floyd_specread_specs.proofs.types.result_type_at.Goals as goal

pub returns-in_err-ty-clause-exact : goal.returns-in_err-ty-clause-exact
returns-in_err-ty-clause-exact c =
    stopped (λ (x : SizedType × ℕ). x) (specs.result_type c.args.text.bytes.now c.args.text.tokens.now (env c.args.scope.now c.args.bound.now) c.args.at) c.from_residual-in_err-ty.result c.in_err-ty.field-0.0 c.from_residual-in_err-ty.ensures.1
    (λ refusal e. (Ok (c.in_ok-_open._open, c.in_ok-_open.first), c.in_ok-_open.ensures.exact, (Err refusal, rw e at c.in_err-ty.ensures.exact, refl)))

pub returns-in_err-_close-clause-exact : goal.returns-in_err-_close-clause-exact
returns-in_err-_close-clause-exact c =
    stopped (λ (x : SizedType × ℕ). x) (specs.result_type c.args.text.bytes.now c.args.text.tokens.now (env c.args.scope.now c.args.bound.now) c.args.at) c.from_residual-in_err-_close.result c.in_err-_close.field-0.0 c.from_residual-in_err-_close.ensures.1
    (λ refusal e. (Ok (c.in_ok-_open._open, c.in_ok-_open.first), c.in_ok-_open.ensures.exact, (Ok (c.in_ok-ty.ty, c.in_ok-ty.end), c.in_ok-ty.ensures.exact, (Err refusal, rw e at c.in_err-_close.ensures.exact, refl))))

pub returns-clause-exact : goal.returns-clause-exact
returns-clause-exact c =
    (Ok (c.in_ok-_open._open, c.in_ok-_open.first), c.in_ok-_open.ensures.exact, (Ok (c.in_ok-ty.ty, c.in_ok-ty.end), c.in_ok-ty.ensures.exact, (Ok (c.in_ok-_close._close, c.in_ok-_close.behind), c.in_ok-_close.ensures.exact, refl)))
