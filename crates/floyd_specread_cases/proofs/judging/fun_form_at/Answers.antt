use Rattle.std.proofs.Common.{ℕ, Bool, Ok, Err, refl}
use Rattle.floyd_specread_cases.specs.declared.forms.CaseForm.TheVariants.{OfTerms}
use Rattle.floyd_specread_cases.specs.Cases as specs
use Rattle.floyd_termread_parts.proofs.Chains.{stopped, carried}
use Rattle.floyd_specread_cases.proofs.judging.fun_form_at.Goals as goal

pub returns-in_err-head : goal.returns-in_err-head
returns-in_err-head c = record {
  exact =
      stopped (λ (x : Bool × ℕ). x) (specs.fun_form c.args.text.bytes.now c.args.text.tokens.now c.args.at) c.from_residual.result c.in_err-head.field-0.0 c.from_residual.ensures.1
      (λ refusal e. (Err refusal, rw e at c.in_err-head.ensures.exact, refl));
}

pub returns : goal.returns
returns c = record {
  exact =
      carried (λ (x : Bool × ℕ). x) (specs.fun_form c.args.text.bytes.now c.args.text.tokens.now c.args.at) c.item_differs_at.result (specs.item_differs c.args.text.bytes.now c.args.text.tokens.now c.in_ok-head.head.arguments OfTerms c.in_ok-head.first) (rw c.as_slice.ensures at c.item_differs_at.ensures.exact)
      (λ a d. (Ok (c.in_ok-head.head, c.in_ok-head.first), c.in_ok-head.ensures.exact, d));
}
