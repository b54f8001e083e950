use Rattle.std.proofs.Common.{◌≡◌, true, Ok, sym, ap, ◌∙◌}
use Rattle.std.specs.Prelude.{is_none, is_some}
use Rattle.std.specs.Option.{unwrap_or}
use Rattle.floyd_assert_changes.specs.Changed.{terms_in}
use Rattle.floyd_assert_terms.specs.Mapped.{body_mapped}
use Rattle.floyd_unfolding.specs.UnfoldedClauses.{all_unfolded, terms_unfolded}
use Rattle.floyd_simplifying.proofs.JoiningAssertions.{clash}
use Rattle.floyd_unfolding.proofs.JoiningAssertions.{assertion_some}
use Rattle.floyd_unfolding.proofs.assertions.unfold_assertion.Goals as goal
use Rattle.floyd_unfolding.proofs.assertions.unfold_assertion.Goals.{else-is_none-via-then-is_none+else-is_none-2, else-is_none-via-else-is_none}

pub returns : goal.returns
returns g c =
    let a = c.args.a.now in
    let all : c.as_slice-2.result.now ≡ terms_in a = c.as_slice-2.ensures.value ∙ c.in_ok-all.ensures in
    let terms : (terms_unfolded c.args.name.now c.args.own.now) (terms_in a) ≡ Ok c.in_ok-terms.terms = ap (terms_unfolded c.args.name.now c.args.own.now) (sym all) ∙ c.in_ok-terms.ensures.exact in
    let props : (all_unfolded c.args.name.now c.args.own.now) a.props ≡ Ok c.in_ok-props.props = ap (all_unfolded c.args.name.now c.args.own.now) (sym c.as_slice.ensures) ∙ c.in_ok-props.ensures.exact in
    let some : is_none c.in_ok-props.props ≡ true → is_none c.in_ok-terms.terms ≡ true → ⊥ =
    elim c.else-is_none.branch [
      | else-is_none-via-then-is_none+else-is_none-2 w ↦ λ i j. clash (is_some c.in_ok-terms.terms) w.is_none-then-is_none.result j w.is_none-then-is_none.ensures w.if-is_none-2.false
      | else-is_none-via-else-is_none w ↦ λ i j. clash (is_some c.in_ok-props.props) c.is_none.result i c.is_none.ensures w.if-is_none.false
    ] in
    let old_terms : c.as_slice-3.result.now ≡ terms_in a = c.as_slice-3.ensures.value ∙ c.in_ok-all.ensures in
    let new_terms : c.as_slice-5.result.now ≡ unwrap_or c.in_ok-terms.terms (terms_in a) = c.as_slice-5.ensures ∙ c.in_ok-terms-2.ensures ∙ ap (unwrap_or c.in_ok-terms.terms) old_terms in
    let new_props : c.in_ok-props-2.props ≡ unwrap_or c.in_ok-props.props a.props = c.in_ok-props-2.ensures ∙ ap (unwrap_or c.in_ok-props.props) c.as_slice-4.ensures in
    record {
      exact = assertion_some c.args.name.now c.args.own.now a c.in_ok-terms.terms c.in_ok-props.props terms props c.in_ok-with_terms.field-0 some
          (λ f e. c.in_ok-with_terms.ensures f (new_terms ∙ e) ∙ ap (λ ps. body_mapped f ps a) new_props);
    }
