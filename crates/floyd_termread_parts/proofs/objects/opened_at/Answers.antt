use Rattle.std.proofs.Common.{ℕ, ◌+◌, Ok, Err, refl}
use Rattle.floyd_termread_scope.specs.Scopes.{env}
use Rattle.floyd_termread_parts.specs.declared.objects.Object.{Object}
use Rattle.floyd_termread_parts.specs.Objects as objects
use Rattle.floyd_termread_parts.specs.Parts as parts
use Rattle.floyd_termread_parts.proofs.Chains.{stopped, carried}
use Rattle.floyd_termread_parts.proofs.objects.opened_at.Goals as goal

pub returns-in_err-share-clause-exact : goal.returns-in_err-share-clause-exact
returns-in_err-share-clause-exact c =
    stopped (λ (x : Object × ℕ). x) (parts.opened c.args.text.bytes.now c.args.text.tokens.now c.args.spot.depth (env c.args.scope.now c.args.bound.now) c.args.spot.at) c.from_residual-in_err-share.result c.in_err-share.field-0.0 c.from_residual-in_err-share.ensures.1 (λ refusal e. (Ok (c.in_ok-_open._open, c.in_ok-_open.first), c.in_ok-_open.ensures.exact, (Err refusal, rw e at c.in_err-share.ensures.exact, refl)))

pub returns-clause-exact : goal.returns-clause-exact
returns-clause-exact c =
    carried (λ (x : Object × ℕ). x) (parts.opened c.args.text.bytes.now c.args.text.tokens.now c.args.spot.depth (env c.args.scope.now c.args.bound.now) c.args.spot.at) c.object_at.result (objects.object c.args.text.bytes.now c.args.text.tokens.now (c.args.spot.depth + 1) (env c.args.scope.now c.args.bound.now) c.in_ok-share.share c.in_ok-share.start) c.object_at.ensures.exact (λ a d. (Ok (c.in_ok-_open._open, c.in_ok-_open.first), c.in_ok-_open.ensures.exact, (Ok (c.in_ok-share.share, c.in_ok-share.start), c.in_ok-share.ensures.exact, d)))
