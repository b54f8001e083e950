use Rattle.std.proofs.Common.{ℕ, Ok, Err, refl}
use Rattle.floyd_termread_marks.specs.declared.words.AssertionWord.TheVariants.{Sep}
use Rattle.floyd_specread_skims.specs.declared.lists.Skimmed.TheVariants.{Part}
use Rattle.floyd_specread_cases.specs.Cases as specs
use Rattle.floyd_termread_parts.proofs.Chains.{stopped, carried}
use Rattle.floyd_specread_cases.proofs.forms.assertion_form_at.Goals as goal

pub returns-in_err-_existentials-clause-exact : goal.returns-in_err-_existentials-clause-exact
returns-in_err-_existentials-clause-exact c =
    stopped (λ (n : ℕ). (tt {0}, n)) (specs.assertion_form c.args.text.bytes.now c.args.text.tokens.now c.args.at) c.from_residual.result c.in_err-_existentials.field-0.0 c.from_residual.ensures.1
    (λ refusal e. (Err refusal, rw e at c.in_err-_existentials.ensures.exact, refl))

pub returns-in_err-second-clause-exact : goal.returns-in_err-second-clause-exact
returns-in_err-second-clause-exact c =
    stopped (λ (n : ℕ). (tt {0}, n)) (specs.assertion_form c.args.text.bytes.now c.args.text.tokens.now c.args.at) c.from_residual-in_err-second.result c.in_err-second.field-0.0 c.from_residual-in_err-second.ensures.1
    (λ refusal e. (Ok (c.in_ok-_existentials._existentials, c.in_ok-_existentials.first), c.in_ok-_existentials.ensures.exact, (Err refusal, rw e at c.in_err-second.ensures.exact, refl)))

pub returns-clause-exact : goal.returns-clause-exact
returns-clause-exact c =
    carried (λ (n : ℕ). (tt {0}, n)) (specs.assertion_form c.args.text.bytes.now c.args.text.tokens.now c.args.at) c.worded_list_at-2.result (specs.worded_list c.args.text.bytes.now c.args.text.tokens.now Sep Part c.in_ok-second.second) c.worded_list_at-2.ensures.exact
    (λ a d. (Ok (c.in_ok-_existentials._existentials, c.in_ok-_existentials.first), c.in_ok-_existentials.ensures.exact, (Ok (tt {0}, c.in_ok-second.second), c.in_ok-second.ensures.exact, d)))
