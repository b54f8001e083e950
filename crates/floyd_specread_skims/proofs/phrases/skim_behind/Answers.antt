use Rattle.std.proofs.Common.{ℕ, Ok, Err, refl}
use Rattle.floyd_specread_skims.specs.Skims as specs
use Rattle.floyd_termread_parts.proofs.Chains.{stopped, carried}
use Rattle.floyd_specread_skims.proofs.phrases.skim_behind.Goals as goal

pub returns-in_err-_comma-clause-exact : goal.returns-in_err-_comma-clause-exact
returns-in_err-_comma-clause-exact c =
    stopped (λ (n : ℕ). (tt, n)) (specs.behind c.args.text.bytes.now c.args.text.tokens.now c.args.spot.depth c.args.want c.args.spot.at) c.from_residual.result c.in_err-_comma.field-0.0 c.from_residual.ensures.1
    (λ refusal e. (Err refusal, rw e at c.in_err-_comma.ensures.exact, refl))

pub returns-clause-exact : goal.returns-clause-exact
returns-clause-exact c =
    carried (λ (n : ℕ). (tt, n)) (specs.behind c.args.text.bytes.now c.args.text.tokens.now c.args.spot.depth c.args.want c.args.spot.at) c.skim_phrase.result (specs.phrase c.args.text.bytes.now c.args.text.tokens.now c.args.spot.depth c.args.want c.in_ok-_comma.first) c.skim_phrase.ensures.exact
    (λ a d. (Ok (c.in_ok-_comma._comma, c.in_ok-_comma.first), c.in_ok-_comma.ensures.exact, d))
