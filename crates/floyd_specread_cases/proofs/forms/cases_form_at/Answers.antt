use Rattle.std.proofs.Common.{ℕ, List, Ok, Err, refl}
use Rattle.floyd_assert_trees.specs.declared.pattern.Pattern.{Pattern}
use Rattle.floyd_specread_cases.specs.Cases as specs
use Rattle.floyd_termread_parts.proofs.Chains.{stopped, carried}
use Rattle.floyd_specread_cases.proofs.forms.cases_form_at.Goals as goal

pub returns-in_err-first-clause-exact : goal.returns-in_err-first-clause-exact
returns-in_err-first-clause-exact c =
    stopped (λ (x : List Pattern × ℕ). x) (specs.cases_form c.args.text.bytes.now c.args.text.tokens.now c.args.form c.args.at) c.from_residual.result c.in_err-first.field-0.0 c.from_residual.ensures.1
    (λ refusal e. (Err refusal, rw e at c.in_err-first.ensures.exact, refl))

pub returns-clause-exact : goal.returns-clause-exact
returns-clause-exact c =
    carried (λ (x : List Pattern × ℕ). x) (specs.cases_form c.args.text.bytes.now c.args.text.tokens.now c.args.form c.args.at) c.more_forms_at.result (specs.more_forms c.args.text.bytes.now c.args.text.tokens.now c.args.form c.in_ok-first.first c.in_ok-first.second) c.more_forms_at.ensures.exact
    (λ a d. (Ok (c.in_ok-first.first, c.in_ok-first.second), c.in_ok-first.ensures.exact, d))
