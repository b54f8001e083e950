use Rattle.std.proofs.Common.{ℕ, Ok, Err, refl}
use Rattle.floyd_specread_skims.specs.Skims as specs
use Rattle.floyd_termread_parts.proofs.Chains.{stopped, carried}
use Rattle.floyd_specread_skims.proofs.parts.skim_worded.Goals as goal

pub returns-in_err-_place-clause-exact : goal.returns-in_err-_place-clause-exact
returns-in_err-_place-clause-exact c =
    stopped (λ (n : ℕ). (tt, n)) (specs.worded c.args.text.bytes.now c.args.text.tokens.now c.args.spot.depth c.args.word c.args.spot.at) c.from_residual.result c.in_err-_place.field-0.0 c.from_residual.ensures.1
    (λ refusal e. (Err refusal, rw e at c.in_err-_place.ensures.exact, refl))

pub returns-clause-exact : goal.returns-clause-exact
returns-clause-exact c =
    carried (λ (n : ℕ). (tt, n)) (specs.worded c.args.text.bytes.now c.args.text.tokens.now c.args.spot.depth c.args.word c.args.spot.at) c.skim_behind_word.result (specs.behind_word c.args.text.bytes.now c.args.text.tokens.now c.args.spot.depth c.args.word c.in_ok-_place.at) c.skim_behind_word.ensures.exact
    (λ a d. (Ok (c.in_ok-_place._place, c.in_ok-_place.at), c.in_ok-_place.ensures.exact, d))
