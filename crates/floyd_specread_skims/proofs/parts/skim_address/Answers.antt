use Rattle.std.proofs.Common.{ℕ, Ok, Err, refl}
use Rattle.floyd_specread_skims.specs.Skims as specs
use Rattle.floyd_termread_parts.proofs.Chains.{stopped}
use Rattle.floyd_specread_skims.proofs.parts.skim_address.Goals as goal

pub returns-in_err-_open-clause-exact : goal.returns-in_err-_open-clause-exact
returns-in_err-_open-clause-exact c =
    stopped (λ (n : ℕ). (tt, n)) (specs.address c.args.text.bytes.now c.args.text.tokens.now c.args.spot.depth c.args.spot.at) c.from_residual.result c.in_err-_open.field-0.0 c.from_residual.ensures.1
    (λ refusal e. (Err refusal, rw e at c.in_err-_open.ensures.exact, refl))

pub returns-in_err-end-clause-exact : goal.returns-in_err-end-clause-exact
returns-in_err-end-clause-exact c =
    stopped (λ (n : ℕ). (tt, n)) (specs.address c.args.text.bytes.now c.args.text.tokens.now c.args.spot.depth c.args.spot.at) c.from_residual-in_err-end.result c.in_err-end.field-0.0 c.from_residual-in_err-end.ensures.1
    (λ refusal e. (Ok (c.in_ok-_open._open, c.in_ok-_open.at), c.in_ok-_open.ensures.exact, (Err refusal, rw e at c.in_err-end.ensures.exact, refl)))

pub returns-in_err-_close-clause-exact : goal.returns-in_err-_close-clause-exact
returns-in_err-_close-clause-exact c =
    stopped (λ (n : ℕ). (tt, n)) (specs.address c.args.text.bytes.now c.args.text.tokens.now c.args.spot.depth c.args.spot.at) c.from_residual-in_err-_close.result c.in_err-_close.field-0.0 c.from_residual-in_err-_close.ensures.1
    (λ refusal e. (Ok (c.in_ok-_open._open, c.in_ok-_open.at), c.in_ok-_open.ensures.exact, (Ok (tt, c.in_ok-end.end), c.in_ok-end.ensures.exact, (Err refusal, rw e at c.in_err-_close.ensures.exact, refl))))

pub returns-clause-exact : goal.returns-clause-exact
returns-clause-exact c = (Ok (c.in_ok-_open._open, c.in_ok-_open.at), c.in_ok-_open.ensures.exact, (Ok (tt, c.in_ok-end.end), c.in_ok-end.ensures.exact, (Ok (c.in_ok-_close._close, c.in_ok-_close.behind), c.in_ok-_close.ensures.exact, refl)))
