use Rattle.std.proofs.Common.{◌≡◌, ℕ, List, length, Ok, Err, refl, ◌∙◌, eq-eqb, sym}
use Rattle.std.proofs.lemmas.Bool.{ne_eqb}
use Rattle.floyd_tree.specs.Plain.{Plain}
use Rattle.floyd_termread_scope.specs.Scopes.{env}
use Rattle.floyd_termread_parts.specs.Parts as parts
use Rattle.floyd_termread_parts.proofs.Chains.{stopped}
use Rattle.floyd_termread_parts.proofs.predicates.arguments_at.Goals as goal

pub returns-in_err-_open-clause-exact : goal.returns-in_err-_open-clause-exact
returns-in_err-_open-clause-exact c =
    stopped (λ (x : List Plain × ℕ). x) (parts.counted_arguments c.args.text.bytes.now c.args.text.tokens.now c.args.spot.depth (env c.args.scope.now c.args.bound.now) c.args.pred.now c.args.spot.at) c.from_residual.result c.in_err-_open.field-0.0 c.from_residual.ensures.1 (λ refusal e. (Err refusal, (Err refusal, rw e at c.in_err-_open.ensures.exact, refl), refl))

pub returns-in_err-terms-clause-exact : goal.returns-in_err-terms-clause-exact
returns-in_err-terms-clause-exact c =
    stopped (λ (x : List Plain × ℕ). x) (parts.counted_arguments c.args.text.bytes.now c.args.text.tokens.now c.args.spot.depth (env c.args.scope.now c.args.bound.now) c.args.pred.now c.args.spot.at) c.from_residual-in_err-terms.result c.in_err-terms.field-0.0 c.from_residual-in_err-terms.ensures.1 (λ refusal e. (Err refusal, (Ok (c.in_ok-_open._open, c.in_ok-_open.first), c.in_ok-_open.ensures.exact, rw e at c.in_err-terms.ensures.exact), refl))

pub returns-then-len-clause-exact : goal.returns-then-len-clause-exact
returns-then-len-clause-exact c =
    let same : length c.in_ok-terms.terms ≡ length (c.args.pred.now).arguments = sym c.len.ensures ∙ c.if-len.true ∙ c.len-2.ensures in
    (Ok (c.in_ok-terms.terms, c.in_ok-terms.behind), (Ok (c.in_ok-_open._open, c.in_ok-_open.first), c.in_ok-_open.ensures.exact, c.in_ok-terms.ensures.exact), rw (eq-eqb (length c.in_ok-terms.terms) (length (c.args.pred.now).arguments) same) refl)

pub returns-clause-exact : goal.returns-clause-exact
returns-clause-exact c =
    let apart : length c.in_ok-terms.terms ≡ length (c.args.pred.now).arguments → ⊥ = λ e. c.if-len.false (c.len.ensures ∙ e ∙ sym c.len-2.ensures) in
    (Ok (c.in_ok-terms.terms, c.in_ok-terms.behind), (Ok (c.in_ok-_open._open, c.in_ok-_open.first), c.in_ok-_open.ensures.exact, c.in_ok-terms.ensures.exact), rw (ne_eqb (length c.in_ok-terms.terms) (length (c.args.pred.now).arguments) apart, c.ill_sorted.ensures, c.first_place.ensures) refl)
