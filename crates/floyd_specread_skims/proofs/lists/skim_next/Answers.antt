use Rattle.std.proofs.Common.{ℕ, Ok, Err, refl}
use Rattle.floyd_specread_skims.specs.Skims as specs
use Rattle.floyd_termread_parts.proofs.Chains.{stopped, carried}
use Rattle.floyd_specread_skims.proofs.lists.skim_next.Goals as goal

pub returns-in_err-first-clause-exact : goal.returns-in_err-first-clause-exact
returns-in_err-first-clause-exact c =
    stopped (λ (n : ℕ). (tt, n)) (specs.item_by c.args.text.bytes.now c.args.text.tokens.now c.args.spot.depth c.args.between c.args.what c.args.before c.args.spot.at) c.from_residual.result c.in_err-first.field-0.0 c.from_residual.ensures.1
    (λ refusal e. (Err refusal, rw e at c.in_err-first.ensures.exact, refl))

pub returns-clause-exact : goal.returns-clause-exact
returns-clause-exact c =
    carried (λ (n : ℕ). (tt, n)) (specs.item_by c.args.text.bytes.now c.args.text.tokens.now c.args.spot.depth c.args.between c.args.what c.args.before c.args.spot.at) c.skim_item.result (specs.item c.args.text.bytes.now c.args.text.tokens.now c.args.spot.depth c.args.what c.in_ok-first.first) c.skim_item.ensures.exact
    (λ a d. (Ok (tt, c.in_ok-first.first), c.in_ok-first.ensures.exact, d))
