use Rattle.std.proofs.Common.{ℕ, Ok, Err, refl, length}
use Rattle.floyd_assert_trees.specs.declared.assertion.Local.{Local}
use Rattle.floyd_termread_scope.specs.Scopes.{env}
use Rattle.floyd_termread_assertions.specs.Assertions as specs
use Rattle.floyd_termread_parts.proofs.Chains.{stopped, carried}
use Rattle.floyd_termread_assertions.proofs.locals.next_local.Goals as goal

pub returns-in_err-first-clause-exact : goal.returns-in_err-first-clause-exact
returns-in_err-first-clause-exact c =
    stopped (λ (x : Local × ℕ). x) (specs.item_by c.args.text.bytes.now c.args.text.tokens.now c.args.spot.depth (length c.args.before.locals.now) (specs.local_behind c.args.text.bytes.now c.args.text.tokens.now c.args.spot.depth (env c.args.scope.now c.args.bound.now) c.args.before.locals.now) c.args.spot.at) c.from_residual.result c.in_err-first.field-0.0 c.from_residual.ensures.1 (λ refusal e. (Err refusal, rw e at c.in_err-first.ensures.exact, refl))

pub returns-clause-exact : goal.returns-clause-exact
returns-clause-exact c =
    carried (λ (x : Local × ℕ). x) (specs.item_by c.args.text.bytes.now c.args.text.tokens.now c.args.spot.depth (length c.args.before.locals.now) (specs.local_behind c.args.text.bytes.now c.args.text.tokens.now c.args.spot.depth (env c.args.scope.now c.args.bound.now) c.args.before.locals.now) c.args.spot.at) c.local_at.result (specs.local_behind c.args.text.bytes.now c.args.text.tokens.now c.args.spot.depth (env c.args.scope.now c.args.bound.now) c.args.before.locals.now c.in_ok-first.first) c.local_at.ensures.exact (λ a d. (Ok (tt, c.in_ok-first.first), c.in_ok-first.ensures.exact, d))
