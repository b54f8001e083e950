use Rattle.std.proofs.Common.{ℕ, Bool, Ok, Err, refl}
use Rattle.floyd_specread_cases.specs.Cases as specs
use Rattle.floyd_termread_parts.proofs.Chains.{stopped}
use Rattle.floyd_specread_cases.proofs.forms.whole_form_at.Goals as goal

pub returns-in_err-behind-clause-exact : goal.returns-in_err-behind-clause-exact
returns-in_err-behind-clause-exact c =
    stopped (λ (x : Bool × ℕ). x) (specs.whole_form c.args.text.bytes.now c.args.text.tokens.now c.args.form c.args.at) c.from_residual.result c.in_err-behind.field-0.0 c.from_residual.ensures.1
    (λ refusal e. (Err refusal, rw e at c.in_err-behind.ensures.exact, refl))

pub returns-clause-exact : goal.returns-clause-exact
returns-clause-exact c =
    (Ok (tt {0}, c.in_ok-behind.behind), c.in_ok-behind.ensures.exact, refl)
