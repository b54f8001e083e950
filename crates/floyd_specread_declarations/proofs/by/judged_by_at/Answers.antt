use Rattle.std.proofs.Common.{ℕ, Ok, Err, refl}
use Rattle.floyd_specread_trees.specs.declared.declarations.By.{By}
use Rattle.floyd_termread_scope.specs.Scopes.{env}
use Rattle.floyd_specread_declarations.specs.Declarations as specs
use Rattle.floyd_termread_parts.proofs.Chains.{stopped}
use Rattle.floyd_specread_declarations.proofs.by.judged_by_at.Goals as goal

pub returns-in_err-_by-clause-exact : goal.returns-in_err-_by-clause-exact
returns-in_err-_by-clause-exact c =
    stopped (λ (x : By × ℕ). x) (specs.judged_by c.args.text.bytes.now c.args.text.tokens.now (env c.args.scope.now c.args.bound.now) c.args.at) c.from_residual.result c.in_err-_by.field-0.0 c.from_residual.ensures.1
    (λ refusal e. (Err refusal, rw e at c.in_err-_by.ensures.exact, refl))

pub returns-in_err-terms-clause-exact : goal.returns-in_err-terms-clause-exact
returns-in_err-terms-clause-exact c =
    stopped (λ (x : By × ℕ). x) (specs.judged_by c.args.text.bytes.now c.args.text.tokens.now (env c.args.scope.now c.args.bound.now) c.args.at) c.from_residual-in_err-terms.result c.in_err-terms.field-0.0 c.from_residual-in_err-terms.ensures.1
    (λ refusal e. (Ok (c.in_ok-_by._by, c.in_ok-_by.first), c.in_ok-_by.ensures.exact, (Err refusal, rw e at c.in_err-terms.ensures.exact, refl)))

pub returns-in_err-_frame-clause-exact : goal.returns-in_err-_frame-clause-exact
returns-in_err-_frame-clause-exact c =
    stopped (λ (x : By × ℕ). x) (specs.judged_by c.args.text.bytes.now c.args.text.tokens.now (env c.args.scope.now c.args.bound.now) c.args.at) c.from_residual-in_err-_frame.result c.in_err-_frame.field-0.0 c.from_residual-in_err-_frame.ensures.1
    (λ refusal e. (Ok (c.in_ok-_by._by, c.in_ok-_by.first), c.in_ok-_by.ensures.exact, (Ok (c.in_ok-terms.terms, c.in_ok-terms.second), c.in_ok-terms.ensures.exact, (Err refusal, rw e at c.in_err-_frame.ensures.exact, refl))))

pub returns-in_err-frame-clause-exact : goal.returns-in_err-frame-clause-exact
returns-in_err-frame-clause-exact c =
    stopped (λ (x : By × ℕ). x) (specs.judged_by c.args.text.bytes.now c.args.text.tokens.now (env c.args.scope.now c.args.bound.now) c.args.at) c.from_residual-in_err-frame.result c.in_err-frame.field-0.0 c.from_residual-in_err-frame.ensures.1
    (λ refusal e. (Ok (c.in_ok-_by._by, c.in_ok-_by.first), c.in_ok-_by.ensures.exact, (Ok (c.in_ok-terms.terms, c.in_ok-terms.second), c.in_ok-terms.ensures.exact, (Ok (c.in_ok-_frame._frame, c.in_ok-_frame.third), c.in_ok-_frame.ensures.exact, (Err refusal, rw e at c.in_err-frame.ensures.exact, refl)))))

pub returns-clause-exact : goal.returns-clause-exact
returns-clause-exact c =
    (Ok (c.in_ok-_by._by, c.in_ok-_by.first), c.in_ok-_by.ensures.exact, (Ok (c.in_ok-terms.terms, c.in_ok-terms.second), c.in_ok-terms.ensures.exact, (Ok (c.in_ok-_frame._frame, c.in_ok-_frame.third), c.in_ok-_frame.ensures.exact, (Ok (c.in_ok-frame.frame, c.in_ok-frame.behind), c.in_ok-frame.ensures.exact, refl))))
