use Rattle.std.proofs.Common.{rules, ◌≡◌, ◌+◌, ◌||◌, ◌∷◌, Ok, drop, sym, ap, subst, ◌∙◌}
use Rattle.std.specs.Prelude.{is_some}
use Rattle.std.proofs.lemmas.List.{drop_more}
use Rattle.floyd_text.specs.Gives.{RuleStops}
use Rattle.floyd_tree.specs.Formulas.{formulas_of, terms_of}
use Rattle.floyd_simplifying.specs.Simplified.{formula_simplified}
use Rattle.floyd_simplifying.specs.SimplifiedClauses.{all_simplified, joined, terms_simplified}
use Rattle.floyd_simplifying.proofs.Joining.{or_else, or_then}
use Rattle.floyd_simplifying.proofs.JoiningFormulas.{formula_stops_below, formulas_on}
use Rattle.floyd_simplifying.proofs.formulas.+formulas.Goals as goal
use Rattle.floyd_simplifying.proofs.formulas.+formulas.Goals.{simplify_formulas-then-changed, simplify_formulas-else-changed}

pub simplify_formula-returns-in_err-kids : goal.simplify_formula-returns-in_err-kids
simplify_formula-returns-in_err-kids g t c =
    let f = c.args.f.now in
    let stop = c.in_err-kids.field-0.0 in
    let terms : terms_simplified (terms_of f) ≡ Ok c.in_ok-terms.terms = ap terms_simplified (sym (c.as_slice.ensures ∙ c.formula_terms.ensures)) ∙ c.in_ok-terms.ensures.exact in
    let kids : RuleStops stop (all_simplified (formulas_of f)) = subst (λ fs. RuleStops stop (all_simplified fs)) (c.as_slice-2.ensures ∙ c.formula_kids.ensures) c.in_err-kids.ensures.exact in
    let stops : RuleStops stop (formula_simplified f) = formula_stops_below stop f c.in_ok-terms.terms terms kids in
    search (rules, stops)

pub simplify_formulas-formulas-preserved : goal.simplify_formulas-formulas-preserved
simplify_formulas-formulas-preserved g t c =
    let fs = c.args.all.now in
    let i = c.formulas.formula-index in
    let x = c.formula-item.result in
    let rest = drop (i + 1) fs in
    let new = c.in_ok-new.new in
    let step : drop i fs ≡ x ∷ rest = drop_more fs i x c.formulas-test.true ∙ ap (λ u. u ∷ rest) (sym c.formula-item.is) in
    let changed : c.if-changed.changed ≡ (c.formulas.changed || c.in_ok-simpler.simpler) =
    elim c.if-changed.branch [
      | simplify_formulas-then-changed w ↦ or_then c.formulas.changed c.in_ok-simpler.simpler c.if-changed.changed w.if-changed.true (w.changed-is ∙ w.if-changed.true)
      | simplify_formulas-else-changed w ↦ or_else c.formulas.changed c.in_ok-simpler.simpler c.if-changed.changed w.if-changed.false w.changed-is
    ] in
    let told : c.if-changed.changed ≡ (c.formulas.changed || is_some new) = changed ∙ ap (λ b. c.formulas.changed || b) c.in_ok-simpler.ensures.told in
    ap (λ b. joined b c.push_formula.new.all.items rest (all_simplified rest)) told
    ∙ ap (λ us. joined (c.formulas.changed || is_some new) us rest (all_simplified rest)) c.in_ok-simpler.ensures.pushed
    ∙ sym (formulas_on new x rest c.formulas.made.items c.formulas.changed c.in_ok-new.ensures.exact)
    ∙ ap (λ us. joined c.formulas.changed c.formulas.made.items us (all_simplified us)) (sym step)
    ∙ c.formulas.invariant
