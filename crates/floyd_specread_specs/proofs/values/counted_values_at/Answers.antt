use Rattle.std.proofs.Common.{ℕ, List, length, Ok, Err, refl, sym, ◌∙◌}
use Rattle.std.proofs.Common.{◌≡◌, eq-eqb}
use Rattle.std.proofs.lemmas.Bool.{ne_eqb}
use Rattle.floyd_tree.specs.Plain.{Plain}
use Rattle.floyd_termread_scope.specs.Scopes.{env}
use Rattle.floyd_specread_specs.specs.Specifications as specs
use Rattle.floyd_termread_parts.proofs.Chains.{stopped}
use Rattle.floyd_specread_specs.proofs.values.counted_values_at.Goals as goal

pub returns-in_err-_open-clause-exact : goal.returns-in_err-_open-clause-exact
returns-in_err-_open-clause-exact c =
    stopped (λ (x : List Plain × ℕ). x) (specs.counted_values c.args.text.bytes.now c.args.text.tokens.now (env c.args.scope.now c.args.bound.now) c.args.count c.args.at) c.from_residual.result c.in_err-_open.field-0.0 c.from_residual.ensures.1 (λ refusal e. (Err refusal, (Err refusal, rw e at c.in_err-_open.ensures.exact, refl), refl))

pub returns-in_err-values-clause-exact : goal.returns-in_err-values-clause-exact
returns-in_err-values-clause-exact c =
    stopped (λ (x : List Plain × ℕ). x) (specs.counted_values c.args.text.bytes.now c.args.text.tokens.now (env c.args.scope.now c.args.bound.now) c.args.count c.args.at) c.from_residual-in_err-values.result c.in_err-values.field-0.0 c.from_residual-in_err-values.ensures.1 (λ refusal e. (Err refusal, (Ok (c.in_ok-_open._open, c.in_ok-_open.first), c.in_ok-_open.ensures.exact, rw e at c.in_err-values.ensures.exact), refl))

pub returns-then-number-count-clause-exact : goal.returns-then-number-count-clause-exact
returns-then-number-count-clause-exact c =
    let same : length c.in_ok-values.values ≡ c.args.count = sym c.len-number.ensures ∙ c.if-number-count.true in
    (Ok (c.in_ok-values.values, c.in_ok-values.behind), (Ok (c.in_ok-_open._open, c.in_ok-_open.first), c.in_ok-_open.ensures.exact, c.in_ok-values.ensures.exact), rw (eq-eqb (length c.in_ok-values.values) c.args.count same) refl)

pub returns-clause-exact : goal.returns-clause-exact
returns-clause-exact c =
    let apart : length c.in_ok-values.values ≡ c.args.count → ⊥ = λ e. c.if-number-count.false (c.len-number.ensures ∙ e) in
    (Ok (c.in_ok-values.values, c.in_ok-values.behind), (Ok (c.in_ok-_open._open, c.in_ok-_open.first), c.in_ok-_open.ensures.exact, c.in_ok-values.ensures.exact), rw (ne_eqb (length c.in_ok-values.values) c.args.count apart, c.ill_sorted.ensures, c.first_place.ensures) refl)
