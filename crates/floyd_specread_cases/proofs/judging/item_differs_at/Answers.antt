use Rattle.std.proofs.Common.{ℕ, Bool, Ok, Err, refl}
use Rattle.floyd_specread_cases.specs.Cases as specs
use Rattle.floyd_termread_parts.proofs.Chains.{stopped}
use Rattle.floyd_specread_cases.proofs.judging.item_differs_at.Goals as goal

pub returns-in_err-differ-clause-exact : goal.returns-in_err-differ-clause-exact
returns-in_err-differ-clause-exact c =
    stopped (λ (x : Bool × ℕ). x) (specs.item_differs c.args.text.bytes.now c.args.text.tokens.now c.args.arguments.now c.args.form c.args.at) c.from_residual.result c.in_err-differ.field-0.0 c.from_residual.ensures.1
    (λ refusal e. (Err refusal, rw e at c.in_err-differ.ensures.exact, refl))

pub returns-in_err-_end-clause-exact : goal.returns-in_err-_end-clause-exact
returns-in_err-_end-clause-exact c =
    stopped (λ (x : Bool × ℕ). x) (specs.item_differs c.args.text.bytes.now c.args.text.tokens.now c.args.arguments.now c.args.form c.args.at) c.from_residual-in_err-_end.result c.in_err-_end.field-0.0 c.from_residual-in_err-_end.ensures.1
    (λ refusal e. (Ok (c.in_ok-differ.differ, c.in_ok-differ.end), c.in_ok-differ.ensures.exact, (Err refusal, rw e at c.in_err-_end.ensures.exact, refl)))

pub returns-clause-exact : goal.returns-clause-exact
returns-clause-exact c =
    (Ok (c.in_ok-differ.differ, c.in_ok-differ.end), c.in_ok-differ.ensures.exact, (Ok (c.in_ok-_end._end, c.in_ok-_end.behind), c.in_ok-_end.ensures.exact, refl))
