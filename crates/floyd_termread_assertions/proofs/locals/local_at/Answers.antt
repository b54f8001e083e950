use Rattle.std.proofs.Common.{ℕ, Ok, Err, refl}
use Rattle.floyd_assert_trees.specs.declared.assertion.Local.{Local}
use Rattle.floyd_termread_scope.specs.Scopes.{env}
use Rattle.floyd_termread_assertions.specs.Assertions as specs
use Rattle.floyd_termread_parts.proofs.Chains.{stopped}
use Rattle.floyd_termread_assertions.proofs.locals.local_at.Goals as goal

pub returns-in_err-term-clause-exact : goal.returns-in_err-term-clause-exact
returns-in_err-term-clause-exact c =
    stopped (λ (x : Local × ℕ). x) (specs.local_behind c.args.text.bytes.now c.args.text.tokens.now c.args.spot.depth (env c.args.scope.now c.args.bound.now) c.args.before.locals.now c.args.spot.at) c.from_residual-in_err-term.result c.in_err-term.field-0.0 c.from_residual-in_err-term.ensures.1 (λ refusal e. (Ok (c.in_ok-found.found, c.in_ok-found.first), c.in_ok-found.ensures.exact, (Err refusal, rw e at c.in_err-term.ensures.exact, refl)))

pub returns-clause-exact : goal.returns-clause-exact
returns-clause-exact c =
    (Ok (c.in_ok-found.found, c.in_ok-found.first), c.in_ok-found.ensures.exact, (Ok (c.in_ok-term.term, c.in_ok-term.behind), c.in_ok-term.ensures.exact, rw c.in_ok-name.ensures refl))
