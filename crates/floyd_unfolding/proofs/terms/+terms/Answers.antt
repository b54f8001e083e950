use Rattle.std.proofs.Common.{◌≡◌, ◌+◌, ◌||◌, ◌∷◌, drop, sym, ap, ◌∙◌}
use Rattle.std.specs.Prelude.{is_some}
use Rattle.std.proofs.lemmas.List.{drop_more}
use Rattle.floyd_simplifying.specs.SimplifiedClauses.{joined}
use Rattle.floyd_unfolding.specs.UnfoldedClauses.{terms_unfolded}
use Rattle.floyd_simplifying.proofs.Joining.{or_else, or_then}
use Rattle.floyd_unfolding.proofs.Joining.{terms_on}
use Rattle.floyd_unfolding.proofs.terms.+terms.Goals as goal
use Rattle.floyd_unfolding.proofs.terms.+terms.Goals.{unfold_terms-then-changed, unfold_terms-else-changed}

pub unfold_terms-terms-preserved : goal.unfold_terms-terms-preserved
unfold_terms-terms-preserved g t c =
    let ts = c.args.terms.now in
    let U = terms_unfolded c.args.name.now c.args.own.now in
    let i = c.terms.term-index in
    let x = c.term-item.result in
    let rest = drop (i + 1) ts in
    let new = c.in_ok-new.new in
    let step : drop i ts ≡ x ∷ rest = drop_more ts i x c.terms-test.true ∙ ap (λ u. u ∷ rest) (sym c.term-item.is) in
    let changed : c.if-changed.changed ≡ (c.terms.changed || c.in_ok-made.made) =
    elim c.if-changed.branch [
      | unfold_terms-then-changed w ↦ or_then c.terms.changed c.in_ok-made.made c.if-changed.changed w.if-changed.true (w.changed-is ∙ w.if-changed.true)
      | unfold_terms-else-changed w ↦ or_else c.terms.changed c.in_ok-made.made c.if-changed.changed w.if-changed.false w.changed-is
    ] in
    let told : c.if-changed.changed ≡ (c.terms.changed || is_some new) = changed ∙ ap (λ b. c.terms.changed || b) c.in_ok-made.ensures.told in
    ap (λ b. joined b c.push_term.new.all.items rest (U rest)) told
    ∙ ap (λ us. joined (c.terms.changed || is_some new) us rest (U rest)) c.in_ok-made.ensures.pushed
    ∙ sym (terms_on c.args.name.now c.args.own.now new x rest c.terms.all.items c.terms.changed c.in_ok-new.ensures.exact)
    ∙ ap (λ us. joined c.terms.changed c.terms.all.items us (U us)) (sym step)
    ∙ c.terms.invariant
