use Rattle.std.proofs.Common.{ℕ, Bool, Ok, Err, refl}
use Rattle.floyd_specread_cases.specs.declared.forms.CaseForm.TheVariants.{OfAssertions}
use Rattle.floyd_specread_cases.specs.Cases as specs
use Rattle.floyd_termread_parts.proofs.Chains.{stopped, carried}
use Rattle.floyd_specread_cases.proofs.judging.pred_form_at.Goals as goal

pub returns-in_err-arguments : goal.returns-in_err-arguments
returns-in_err-arguments c = record {
  exact =
      stopped (λ (x : Bool × ℕ). x) (specs.pred_form c.args.text.bytes.now c.args.text.tokens.now c.args.at) c.from_residual.result c.in_err-arguments.field-0.0 c.from_residual.ensures.1
      (λ refusal e. (Err refusal, rw e at c.in_err-arguments.ensures.exact, refl));
}

pub returns : goal.returns
returns c = record {
  exact =
      carried (λ (x : Bool × ℕ). x) (specs.pred_form c.args.text.bytes.now c.args.text.tokens.now c.args.at) c.item_differs_at.result (specs.item_differs c.args.text.bytes.now c.args.text.tokens.now c.in_ok-arguments.arguments OfAssertions c.in_ok-arguments.first) (rw c.as_slice.ensures at c.item_differs_at.ensures.exact)
      (λ a d. (Ok (c.in_ok-arguments.arguments, c.in_ok-arguments.first), c.in_ok-arguments.ensures.exact, d));
}
