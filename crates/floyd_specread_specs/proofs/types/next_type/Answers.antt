use Rattle.std.proofs.Common.{ℕ, Ok, Err, refl}
use Rattle.floyd_tree.specs.Types.{SizedType}
use Rattle.floyd_termread_scope.specs.Scopes.{env}
use Rattle.floyd_termread_phrases.specs.Phrases as phrase
use Rattle.floyd_specread_specs.specs.Specifications as specs
use Rattle.floyd_termread_parts.proofs.Chains.{stopped, carried}
use Rattle.floyd_specread_specs.proofs.types.next_type.Goals as goal

pub returns-in_err-first-clause-exact : goal.returns-in_err-first-clause-exact
returns-in_err-first-clause-exact c =
    stopped (λ (x : SizedType × ℕ). x) (specs.type_behind c.args.text.bytes.now c.args.text.tokens.now (env c.args.scope.now c.args.bound.now) c.args.types.now c.args.at) c.from_residual.result c.in_err-first.field-0.0 c.from_residual.ensures.1
    (λ refusal e. (Err refusal, rw e at c.in_err-first.ensures.exact, refl))

pub returns-clause-exact : goal.returns-clause-exact
returns-clause-exact c =
    carried (λ (x : SizedType × ℕ). x) (specs.type_behind c.args.text.bytes.now c.args.text.tokens.now (env c.args.scope.now c.args.bound.now) c.args.types.now c.args.at) c.type_at.result (phrase.type_name c.args.text.bytes.now c.args.text.tokens.now 1 (env c.args.scope.now c.args.bound.now) c.in_ok-first.first) c.type_at.ensures.exact
    (λ a d. (Ok (tt, c.in_ok-first.first), c.in_ok-first.ensures.exact, d))
