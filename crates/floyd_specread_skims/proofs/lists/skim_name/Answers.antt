use Rattle.std.proofs.Common.{ℕ, Ok, Err, refl}
use Rattle.floyd_specread_skims.specs.Skims as specs
use Rattle.floyd_termread_parts.proofs.Chains.{stopped}
use Rattle.floyd_specread_skims.proofs.lists.skim_name.Goals as goal

pub returns-in_err-_name-clause-exact : goal.returns-in_err-_name-clause-exact
returns-in_err-_name-clause-exact c =
    stopped (λ (n : ℕ). (tt, n)) (specs.name c.args.text.bytes.now c.args.text.tokens.now c.args.spot.depth c.args.spot.at) c.from_residual-in_err-_name.result c.in_err-_name.field-0.0 c.from_residual-in_err-_name.ensures.1
    (λ refusal e. (Err refusal, rw (e, c.in_ok-found.ensures) at c.in_err-_name.ensures.exact, refl))

pub returns-clause-exact : goal.returns-clause-exact
returns-clause-exact c = (Ok (c.in_ok-_name._name, c.in_ok-_name.behind), rw c.in_ok-found.ensures at c.in_ok-_name.ensures.exact, refl)
