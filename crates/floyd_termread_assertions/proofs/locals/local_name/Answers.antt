use Rattle.std.proofs.Common.{ℕ, Ok, Err, refl}
use Rattle.floyd_cparse_trees.specs.declared.types.Identifier.{Identifier}
use Rattle.floyd_termread_assertions.specs.Assertions as specs
use Rattle.floyd_termread_parts.proofs.Chains.{stopped}
use Rattle.floyd_termread_assertions.proofs.locals.local_name.Goals as goal

pub returns-in_err-_equal-clause-exact : goal.returns-in_err-_equal-clause-exact
returns-in_err-_equal-clause-exact c =
    stopped (λ (x : Identifier × ℕ). x) (specs.local_name c.args.text.bytes.now c.args.text.tokens.now c.args.spot.depth c.args.before.locals.now c.args.spot.at) c.from_residual-in_err-_equal.result c.in_err-_equal.field-0.0 c.from_residual-in_err-_equal.ensures.1 (λ refusal e. (Ok (c.in_ok-_word._word, c.in_ok-_word.first), c.in_ok-_word.ensures.exact, (Ok (c.in_ok-name.name, c.in_ok-name.second), rw c.in_ok-found.ensures at c.in_ok-name.ensures.exact, (Err refusal, rw e at c.in_err-_equal.ensures.exact, refl))))
