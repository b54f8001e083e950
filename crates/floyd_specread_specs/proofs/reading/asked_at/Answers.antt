use Rattle.std.proofs.Common.{ℕ, List, Ok, Err, refl}
use Rattle.floyd_tree.specs.Types.{SizedType}
use Rattle.floyd_termread_scope.specs.Scopes.{env}
use Rattle.floyd_specread_specs.specs.declared.text.PreText.{PreText}
use Rattle.floyd_specread_specs.specs.Specifications as specs
use Rattle.floyd_termread_parts.proofs.Chains.{stopped}
use Rattle.floyd_specread_specs.proofs.reading.asked_at.Goals as goal

pub returns-in_err-types-clause-exact : goal.returns-in_err-types-clause-exact
returns-in_err-types-clause-exact c =
    stopped (λ (x : (List SizedType × PreText) × ℕ). x) (specs.asked c.args.text.bytes.now c.args.text.tokens.now (env c.args.scope.now c.args.bound.now) c.args.takes_main c.args.at) c.from_residual-in_err-types.result c.in_err-types.field-0.0 c.from_residual-in_err-types.ensures.1
    (λ refusal e. (Ok (c.in_ok-_word._word, c.in_ok-_word.first), c.in_ok-_word.ensures.exact, (Err refusal, rw e at c.in_err-types.ensures.exact, refl)))

pub returns-in_err-pre-clause-exact : goal.returns-in_err-pre-clause-exact
returns-in_err-pre-clause-exact c =
    stopped (λ (x : (List SizedType × PreText) × ℕ). x) (specs.asked c.args.text.bytes.now c.args.text.tokens.now (env c.args.scope.now c.args.bound.now) c.args.takes_main c.args.at) c.from_residual-in_err-pre.result c.in_err-pre.field-0.0 c.from_residual-in_err-pre.ensures.1
    (λ refusal e. (Ok (c.in_ok-_word._word, c.in_ok-_word.first), c.in_ok-_word.ensures.exact, (Ok (c.in_ok-types.types, c.in_ok-types.second), c.in_ok-types.ensures.exact, (Err refusal, rw (e, c.len.ensures) at c.in_err-pre.ensures.exact, refl))))

pub returns-clause-exact : goal.returns-clause-exact
returns-clause-exact c =
    (Ok (c.in_ok-_word._word, c.in_ok-_word.first), c.in_ok-_word.ensures.exact, (Ok (c.in_ok-types.types, c.in_ok-types.second), c.in_ok-types.ensures.exact, (Ok (c.in_ok-pre.pre, c.in_ok-pre.behind), rw (c.len.ensures) at c.in_ok-pre.ensures.exact, refl)))
