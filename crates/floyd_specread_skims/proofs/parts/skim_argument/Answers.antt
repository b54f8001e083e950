use Rattle.std.proofs.Common.{ℕ, Ok, Err, refl}
use Rattle.floyd_termread_tables.specs.declared.values.Want.TheVariants as want
use Rattle.floyd_specread_skims.specs.Skims as specs
use Rattle.floyd_termread_parts.proofs.Chains.{stopped, carried}
use Rattle.floyd_specread_skims.proofs.parts.skim_argument.Goals as goal

pub returns-in_err-first-clause-exact : goal.returns-in_err-first-clause-exact
returns-in_err-first-clause-exact c =
    stopped (λ (n : ℕ). (tt, n)) (specs.argument_by c.args.text.bytes.now c.args.text.tokens.now c.args.spot.depth c.args.before c.args.spot.at) c.from_residual.result c.in_err-first.field-0.0 c.from_residual.ensures.1
    (λ refusal e. (Err refusal, rw e at c.in_err-first.ensures.exact, refl))

pub returns-clause-exact : goal.returns-clause-exact
returns-clause-exact c =
    carried (λ (n : ℕ). (tt, n)) (specs.argument_by c.args.text.bytes.now c.args.text.tokens.now c.args.spot.depth c.args.before c.args.spot.at) c.skim_phrase.result (specs.phrase c.args.text.bytes.now c.args.text.tokens.now c.args.spot.depth want.Term c.in_ok-first.first) c.skim_phrase.ensures.exact
    (λ a d. (Ok (tt, c.in_ok-first.first), c.in_ok-first.ensures.exact, d))
