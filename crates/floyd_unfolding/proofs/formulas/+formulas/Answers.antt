use Rattle.std.proofs.Common.{rules, ◌≡◌, ◌+◌, ◌||◌, ◌∷◌, Ok, drop, sym, ap, subst, ◌∙◌}
use Rattle.std.specs.Prelude.{is_some}
use Rattle.std.proofs.lemmas.List.{drop_more}
use Rattle.floyd_text.specs.Gives.{RuleStops}
use Rattle.floyd_tree.specs.Formulas.{formulas_of, terms_of}
use Rattle.floyd_unfolding.specs.Unfolded.{formula_unfolded}
use Rattle.floyd_simplifying.specs.SimplifiedClauses.{joined}
use Rattle.floyd_unfolding.specs.UnfoldedClauses.{all_unfolded, terms_unfolded}
use Rattle.floyd_simplifying.proofs.Joining.{or_else, or_then}
use Rattle.floyd_unfolding.proofs.JoiningFormulas.{formula_stops_below, formulas_on}
use Rattle.floyd_unfolding.proofs.formulas.+formulas.Goals as goal
use Rattle.floyd_unfolding.proofs.formulas.+formulas.Goals.{unfold_formulas-then-changed, unfold_formulas-else-changed}

pub unfold_formula-returns-in_err-kids : goal.unfold_formula-returns-in_err-kids
unfold_formula-returns-in_err-kids g t c =
    let f = c.args.f.now in
    let stop = c.in_err-kids.field-0.0 in
    let terms : (terms_unfolded c.args.name.now c.args.own.now) (terms_of f) ≡ Ok c.in_ok-terms.terms = ap (terms_unfolded c.args.name.now c.args.own.now) (sym (c.as_slice.ensures ∙ c.formula_terms.ensures)) ∙ c.in_ok-terms.ensures.exact in
    let kids : RuleStops stop ((all_unfolded c.args.name.now c.args.own.now) (formulas_of f)) = subst (λ fs. RuleStops stop ((all_unfolded c.args.name.now c.args.own.now) fs)) (c.as_slice-2.ensures ∙ c.formula_kids.ensures) c.in_err-kids.ensures.exact in
    let stops : RuleStops stop ((formula_unfolded c.args.name.now c.args.own.now) f) = formula_stops_below c.args.name.now c.args.own.now stop f c.in_ok-terms.terms terms kids in
    search (rules, stops)

pub unfold_formulas-formulas-preserved : goal.unfold_formulas-formulas-preserved
unfold_formulas-formulas-preserved g t c =
    let fs = c.args.all.now in
    let i = c.formulas.formula-index in
    let x = c.formula-item.result in
    let rest = drop (i + 1) fs in
    let new = c.in_ok-new.new in
    let step : drop i fs ≡ x ∷ rest = drop_more fs i x c.formulas-test.true ∙ ap (λ u. u ∷ rest) (sym c.formula-item.is) in
    let changed : c.if-changed.changed ≡ (c.formulas.changed || c.in_ok-other.other) =
    elim c.if-changed.branch [
      | unfold_formulas-then-changed w ↦ or_then c.formulas.changed c.in_ok-other.other c.if-changed.changed w.if-changed.true (w.changed-is ∙ w.if-changed.true)
      | unfold_formulas-else-changed w ↦ or_else c.formulas.changed c.in_ok-other.other c.if-changed.changed w.if-changed.false w.changed-is
    ] in
    let told : c.if-changed.changed ≡ (c.formulas.changed || is_some new) = changed ∙ ap (λ b. c.formulas.changed || b) c.in_ok-other.ensures.told in
    ap (λ b. joined b c.push_formula.new.all.items rest ((all_unfolded c.args.name.now c.args.own.now) rest)) told
    ∙ ap (λ us. joined (c.formulas.changed || is_some new) us rest ((all_unfolded c.args.name.now c.args.own.now) rest)) c.in_ok-other.ensures.pushed
    ∙ sym (formulas_on c.args.name.now c.args.own.now new x rest c.formulas.made.items c.formulas.changed c.in_ok-new.ensures.exact)
    ∙ ap (λ us. joined c.formulas.changed c.formulas.made.items us ((all_unfolded c.args.name.now c.args.own.now) us)) (sym step)
    ∙ c.formulas.invariant
