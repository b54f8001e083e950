use Rattle.std.proofs.Common.{ℕ, Ok, Err, refl}
use Rattle.floyd_tree.specs.Plain.{Plain}
use Rattle.floyd_termread_scope.specs.Scopes.{env}
use Rattle.floyd_play_arguments.proofs.Chains.{stopped}
use Rattle.floyd_play_terms.specs.Terms as specs
use Rattle.floyd_play_terms.proofs.terms.enclosed_at.Goals as goal

pub returns-in_err-term-clause-exact : goal.returns-in_err-term-clause-exact
returns-in_err-term-clause-exact c =
    stopped (λ (x : Plain × ℕ). x) (specs.enclosed c.args.text.bytes.now c.args.text.tokens.now (env c.args.scope.now c.args.bound.now) c.args.sort c.args.at) c.from_residual-in_err-term.result c.in_err-term.field-0.0 c.from_residual-in_err-term.ensures.1
    (λ refusal e. (Ok (c.in_ok-_open._open, c.in_ok-_open.first), c.in_ok-_open.ensures.exact, (Err refusal, rw e at c.in_err-term.ensures.exact, refl)))

pub returns-in_err-_close-clause-exact : goal.returns-in_err-_close-clause-exact
returns-in_err-_close-clause-exact c =
    stopped (λ (x : Plain × ℕ). x) (specs.enclosed c.args.text.bytes.now c.args.text.tokens.now (env c.args.scope.now c.args.bound.now) c.args.sort c.args.at) c.from_residual-in_err-_close.result c.in_err-_close.field-0.0 c.from_residual-in_err-_close.ensures.1
    (λ refusal e. (Ok (c.in_ok-_open._open, c.in_ok-_open.first), c.in_ok-_open.ensures.exact, (Ok (c.in_ok-term.term, c.in_ok-term.second), c.in_ok-term.ensures.exact, (Err refusal, rw e at c.in_err-_close.ensures.exact, refl))))
