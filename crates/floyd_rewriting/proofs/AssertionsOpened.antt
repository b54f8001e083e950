-- Assertions with holes.
use Rattle.std.proofs.Common.{◌≡◌, Bool, true, false, not, ◌&&◌, ◌||◌, List, map, Option, Some, None, refl, sym, ap, ◌∙◌}
use Rattle.std.specs.Prelude.{is_some}
use Rattle.std.specs.Option.{unwrap_or}
use Rattle.floyd_tree.specs.Formulas.{PlainFormula, formulas}
use Rattle.floyd_tree.specs.Plain.{Plain, plains}
use Rattle.floyd_assert_trees.specs.declared.assertion.Assertion.{Assertion}
use Rattle.floyd_assert_changes.specs.Changed.{terms_in}
use Rattle.floyd_assert_terms.specs.Mapped.{body_mapped}
use Rattle.floyd_rewriting.specs.Holes.{assertion_opened, formula_opened, opened}
use Rattle.floyd_rewriting.specs.HolesClauses.{assertion_after, formulas_after, if_so, terms_after}
use Rattle.floyd_rewriting.specs.Occurrences.{assertion_occurs, formulas_occur, hide, occurs_in}
use Rattle.floyd_rewriting.proofs.FormulasOpened.{formulas_or}
use Rattle.floyd_rewriting.proofs.TermsOpened.{terms_or}

told_by : {T : Type 0} (b : Bool) (x : T) → is_some (if_so b x) ≡ b
told_by true x = refl
told_by false x = refl

pub or_true : (a : Bool) → (a || true) ≡ true
or_true true = refl
or_true false = refl

swapped : (a b : Bool) → (a || b) ≡ (b || a)
swapped true true = refl
swapped true false = refl
swapped false true = refl
swapped false false = refl

module _ (from hole : Plain) (a : Assertion) where
  there : (terms : Option (List Plain)) (props : Option (List PlainFormula)) → terms ≡ terms_after from hole (terms_in a) → props ≡ formulas_after from hole a.props → (formulas_occur from (formulas a.props) || occurs_in from (plains (terms_in a))) ≡ (is_some terms || is_some props)
  there terms props t p =
      let ts : is_some terms ≡ occurs_in from (plains (terms_in a)) = ap is_some t ∙ told_by (occurs_in from (plains (terms_in a))) (map (opened from hole) (terms_in a)) in
      let ps : is_some props ≡ formulas_occur from (formulas a.props) = ap is_some p ∙ told_by (formulas_occur from (formulas a.props)) (map (formula_opened from hole) a.props) in
      ap (λ b. b || occurs_in from (plains (terms_in a))) (sym ps) ∙ ap (λ b. is_some props || b) (sym ts) ∙ swapped (is_some props) (is_some terms)

  pub assertion_hidden : hide from a.existentials ≡ true → None ≡ assertion_after from hole a
  assertion_hidden h = sym (ap (λ b. if_so (not b && (formulas_occur from (formulas a.props) || occurs_in from (plains (terms_in a)))) (assertion_opened from hole a)) h)

  occurs_by : (terms : Option (List Plain)) (props : Option (List PlainFormula)) → hide from a.existentials ≡ false → terms ≡ terms_after from hole (terms_in a) → props ≡ formulas_after from hole a.props → assertion_occurs from a ≡ (is_some terms || is_some props)
  occurs_by terms props h t p =
      ap (λ b. not b && (formulas_occur from (formulas a.props) || occurs_in from (plains (terms_in a)))) h ∙ there terms props t p

  pub assertion_none : (terms : Option (List Plain)) (props : Option (List PlainFormula)) → hide from a.existentials ≡ false → terms ≡ terms_after from hole (terms_in a) → props ≡ formulas_after from hole a.props → is_some terms ≡ false → is_some props ≡ false → None ≡ assertion_after from hole a
  assertion_none terms props h t p i j =
      sym (ap (λ b. if_so b (assertion_opened from hole a)) (occurs_by terms props h t p ∙ ap (λ b. b || is_some props) i ∙ j))

  pub assertion_some : (terms : Option (List Plain)) (props : Option (List PlainFormula)) (made : Assertion) → hide from a.existentials ≡ false → terms ≡ terms_after from hole (terms_in a) → props ≡ formulas_after from hole a.props → (is_some terms || is_some props) ≡ true → ((f : Plain → Plain) → unwrap_or terms (terms_in a) ≡ map f (terms_in a) → made ≡ body_mapped f (unwrap_or props a.props) a) → Some made ≡ assertion_after from hole a
  assertion_some terms props made h t p i m =
      let is : made ≡ body_mapped (opened from hole) (unwrap_or props a.props) a = m (opened from hole) (ap (λ o. unwrap_or o (terms_in a)) t ∙ terms_or from hole (terms_in a)) in
      let props_are : unwrap_or props a.props ≡ map (formula_opened from hole) a.props = ap (λ o. unwrap_or o a.props) p ∙ formulas_or from hole a.props in
      ap Some (is ∙ ap (λ ps. body_mapped (opened from hole) ps a) props_are)
      ∙ sym (ap (λ b. if_so b (assertion_opened from hole a)) (occurs_by terms props h t p ∙ i))
