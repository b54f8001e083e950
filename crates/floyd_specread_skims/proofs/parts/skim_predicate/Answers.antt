use Rattle.std.proofs.Common.{ℕ, Ok, Err, refl}
use Rattle.floyd_specread_skims.specs.Skims as specs
use Rattle.floyd_termread_parts.proofs.Chains.{stopped}
use Rattle.floyd_specread_skims.proofs.parts.skim_predicate.Goals as goal

pub returns-in_err-_name-clause-exact : goal.returns-in_err-_name-clause-exact
returns-in_err-_name-clause-exact c =
    stopped (λ (n : ℕ). (tt, n)) (specs.predicate c.args.text.bytes.now c.args.text.tokens.now c.args.spot.depth c.args.spot.at) c.from_residual.result c.in_err-_name.field-0.0 c.from_residual.ensures.1
    (λ refusal e. (Err refusal, rw e at c.in_err-_name.ensures.exact, refl))

pub returns-in_err-_open-clause-exact : goal.returns-in_err-_open-clause-exact
returns-in_err-_open-clause-exact c =
    stopped (λ (n : ℕ). (tt, n)) (specs.predicate c.args.text.bytes.now c.args.text.tokens.now c.args.spot.depth c.args.spot.at) c.from_residual-in_err-_open.result c.in_err-_open.field-0.0 c.from_residual-in_err-_open.ensures.1
    (λ refusal e. (Ok (c.in_ok-_name._name, c.in_ok-_name.first), c.in_ok-_name.ensures.exact, (Err refusal, rw e at c.in_err-_open.ensures.exact, refl)))

pub returns-in_err-_arguments-clause-exact : goal.returns-in_err-_arguments-clause-exact
returns-in_err-_arguments-clause-exact c =
    stopped (λ (n : ℕ). (tt, n)) (specs.predicate c.args.text.bytes.now c.args.text.tokens.now c.args.spot.depth c.args.spot.at) c.from_residual-in_err-_arguments.result c.in_err-_arguments.field-0.0 c.from_residual-in_err-_arguments.ensures.1
    (λ refusal e. (Ok (c.in_ok-_name._name, c.in_ok-_name.first), c.in_ok-_name.ensures.exact, (Ok (c.in_ok-_open._open, c.in_ok-_open.second), c.in_ok-_open.ensures.exact, (Err refusal, rw e at c.in_err-_arguments.ensures.exact, refl))))

pub returns-clause-exact : goal.returns-clause-exact
returns-clause-exact c = (Ok (c.in_ok-_name._name, c.in_ok-_name.first), c.in_ok-_name.ensures.exact, (Ok (c.in_ok-_open._open, c.in_ok-_open.second), c.in_ok-_open.ensures.exact, (Ok (c.in_ok-_arguments._arguments, c.in_ok-_arguments.behind), c.in_ok-_arguments.ensures.exact, refl)))
