use Rattle.std.proofs.Common.{ℕ, Bool, Ok, Err, refl}
use Rattle.floyd_specread_cases.specs.Cases as specs
use Rattle.floyd_termread_parts.proofs.Chains.{stopped}
use Rattle.floyd_specread_cases.proofs.judging.cases_differ_at.Goals as goal

pub returns-in_err-patterns-clause-exact : goal.returns-in_err-patterns-clause-exact
returns-in_err-patterns-clause-exact c =
    stopped (λ (x : Bool × ℕ). x) (specs.cases_differ c.args.text.bytes.now c.args.text.tokens.now c.args.arguments.now c.args.form c.args.at) c.from_residual.result c.in_err-patterns.field-0.0 c.from_residual.ensures.1
    (λ refusal e. (Err refusal, rw e at c.in_err-patterns.ensures.exact, refl))

pub returns-clause-exact : goal.returns-clause-exact
returns-clause-exact c =
    (Ok (c.in_ok-patterns.patterns, c.in_ok-patterns.behind), c.in_ok-patterns.ensures.exact, rw (c.in_ok-fit.ensures, c.as_slice.ensures) refl)
