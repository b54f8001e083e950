use Rattle.std.proofs.Common.{◌≡◌, true, not, ◌||◌, sym, ap, ◌∙◌}
use Rattle.std.specs.Prelude.{is_some}
use Rattle.std.specs.Option.{unwrap_or}
use Rattle.floyd_assert_changes.specs.Changed.{terms_in}
use Rattle.floyd_assert_terms.specs.Mapped.{body_mapped}
use Rattle.floyd_rewriting.specs.HolesClauses.{formulas_after, terms_after}
use Rattle.floyd_rewriting.specs.Occurrences.{hide}
use Rattle.floyd_rewriting.proofs.AssertionsOpened.{assertion_some, or_true}
use Rattle.floyd_rewriting.proofs.holes.open_assertion.Goals.{else-is_none-via-then-is_none+else-is_none-2, else-is_none-via-else-is_none}
use Rattle.floyd_rewriting.proofs.holes.open_assertion.Goals as goal

pub returns : goal.returns
returns g c =
    let from = c.args.from.now in
    let hole = c.args.hole.now in
    let a = c.args.a.now in
    let terms = c.in_ok-terms.terms in
    let props = c.in_ok-props.props in
    let shown : hide from a.existentials ≡ _ = ap (hide from) (sym c.as_slice.ensures) ∙ sym c.hide.ensures ∙ c.if-hide.false in
    let some : (is_some terms || is_some props) ≡ true = elim c.else-is_none.branch [
      | else-is_none-via-then-is_none+else-is_none-2 w ↦ ap (λ b. is_some terms || b) (w.is_none-then-is_none.ensures ∙ ap not w.if-is_none-2.false) ∙ or_true (is_some terms)
      | else-is_none-via-else-is_none w ↦ ap (λ b. b || is_some props) (c.is_none.ensures ∙ ap not w.if-is_none.false)
    ] in
    let terms_are : c.as_slice-6.result.now ≡ unwrap_or terms (terms_in a) =
    c.as_slice-6.ensures ∙ c.in_ok-terms-2.ensures ∙ ap (unwrap_or terms) (c.as_slice-4.ensures.value ∙ c.in_ok-all.ensures) in
    let props_are : c.in_ok-props-2.props ≡ unwrap_or props a.props = c.in_ok-props-2.ensures ∙ ap (unwrap_or props) c.as_slice-5.ensures in
    assertion_some from hole a terms props c.in_ok-with_terms.field-0 shown
    (c.in_ok-terms.ensures ∙ ap (terms_after from hole) (c.as_slice-2.ensures.value ∙ c.in_ok-all.ensures))
    (c.in_ok-props.ensures ∙ ap (formulas_after from hole) c.as_slice-3.ensures)
    some
    (λ f e. c.in_ok-with_terms.ensures f (terms_are ∙ e) ∙ ap (λ ps. body_mapped f ps a) props_are)
