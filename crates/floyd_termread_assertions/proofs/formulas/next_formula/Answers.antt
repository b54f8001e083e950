use Rattle.std.proofs.Common.{ℕ, Ok, Err, refl}
use Rattle.floyd_tree.specs.Formulas.{PlainFormula}
use Rattle.floyd_termread_phrases.specs.Phrases as phrase
use Rattle.floyd_termread_scope.specs.Scopes.{env}
use Rattle.floyd_termread_assertions.specs.Assertions as specs
use Rattle.floyd_termread_parts.proofs.Chains.{stopped, carried}
use Rattle.floyd_termread_assertions.proofs.formulas.next_formula.Goals as goal

pub returns-in_err-first-clause-exact : goal.returns-in_err-first-clause-exact
returns-in_err-first-clause-exact c =
    stopped (λ (x : PlainFormula × ℕ). x) (specs.item_by c.args.text.bytes.now c.args.text.tokens.now c.args.spot.depth c.args.number (phrase.formula c.args.text.bytes.now c.args.text.tokens.now c.args.spot.depth (env c.args.scope.now c.args.bound.now)) c.args.spot.at) c.from_residual.result c.in_err-first.field-0.0 c.from_residual.ensures.1 (λ refusal e. (Err refusal, rw e at c.in_err-first.ensures.exact, refl))

pub returns-clause-exact : goal.returns-clause-exact
returns-clause-exact c =
    carried (λ (x : PlainFormula × ℕ). x) (specs.item_by c.args.text.bytes.now c.args.text.tokens.now c.args.spot.depth c.args.number (phrase.formula c.args.text.bytes.now c.args.text.tokens.now c.args.spot.depth (env c.args.scope.now c.args.bound.now)) c.args.spot.at) c.formula_at.result (phrase.formula c.args.text.bytes.now c.args.text.tokens.now c.args.spot.depth (env c.args.scope.now c.args.bound.now) c.in_ok-first.first) c.formula_at.ensures.exact (λ a d. (Ok (tt, c.in_ok-first.first), c.in_ok-first.ensures.exact, d))
