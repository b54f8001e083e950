-- Assertions of which some terms or formulas change.
use Rattle.std.proofs.Common.{◌≡◌, ℕ, true, List, [], ◌∷◌, map, Option, Some, None, Result, Ok, Err, refl, sym, ap, ◌∙◌}
use Rattle.std.specs.Prelude.{is_none}
use Rattle.std.specs.Option.{unwrap_or}
use Rattle.floyd_text.specs.declared.refusal.No.{No}
use Rattle.floyd_text.specs.declared.refusal.RuleStop.{RuleStop}
use Rattle.floyd_text.specs.declared.refusal.RuleStop.TheVariants as r
use Rattle.floyd_text.specs.Gives.{RuleStops}
use Rattle.floyd_tree.specs.Formulas.{PlainFormula, PlainFormulas, MoreFormulas, formulas, listed_formulas}
use Rattle.floyd_tree.specs.Plain.{Plain, Plains, More, listed, plains}
use Rattle.floyd_assert_trees.specs.declared.assertion.Assertion.{Assertion}
use Rattle.floyd_assert_changes.specs.Changed.{terms_in}
use Rattle.floyd_assert_terms.specs.Mapped.{body_mapped}
use Rattle.floyd_assert_trees.specs.declared.items.Fun.{Fun}
use Rattle.floyd_simplifying.specs.Assertions.{changed_or}
use Rattle.floyd_simplifying.specs.SimplifiedClauses.{as_list}
use Rattle.floyd_simplifying.proofs.Joining.{listed_plains}
use Rattle.floyd_simplifying.proofs.JoiningFormulas.{listed_formulas_are, refused_terms}
use Rattle.floyd_simplifying.proofs.TermsKept.{both_are}
use Rattle.floyd_unfolding.specs.Assertions.{assertion_unfolded, formula_or, term_or, with_both}
use Rattle.floyd_unfolding.specs.Unfolded.{formula_unfolded, formulas_unfolded, unfolded, unfolded_in}
use Rattle.floyd_unfolding.specs.UnfoldedClauses.{all_unfolded, terms_unfolded}

nothing_new : {A : Type 0} (p : Option A) → ◌≡◌ {A = Result (Option A) No} (Ok None) (Ok p) → None ≡ p
nothing_new p e = cc

-- as lists
given : {A B : Type 0} (view : A → B) (x : Result (Option A) No) (o : Option B) (old : A) → as_list view x ≡ Ok o → (p : Option A) × (x ≡ Ok p) × (view (unwrap_or p old) ≡ unwrap_or o (view old)) × (is_none o ≡ is_none p)
given view (Ok None) o old e = let same : None ≡ o = cc in (None, refl, ap (λ q. unwrap_or q (view old)) same, ap is_none (sym same))
given view (Ok (Some a)) o old e = let same : Some (view a) ≡ o = cc in (Some a, refl, ap (λ q. unwrap_or q (view old)) same, ap is_none (sym same))
given view (Err refusal) o old e = absurd cc

module _ (name : List ℕ) (own : Fun) where
  in_all : (ts : List Plain) (p : Option Plains) → (unfolded_in name own) (plains ts) ≡ Ok p → unwrap_or p (plains ts) ≡ plains (map (term_or name own) ts)
  in_all [] p e = ap (λ o. unwrap_or o (plains [])) (sym (nothing_new p e))
  in_all (t ∷ ts) p e =
      let b = both_are More t (plains ts) ((unfolded name own) t) ((unfolded_in name own) (plains ts)) p e in
      sym b.is ∙ ap (λ u. More u (unwrap_or b.rest (plains ts))) (sym (or_is b.first b.first_is)) ∙ ap (More ((term_or name own) t)) (in_all ts b.rest b.rest_is)
    where
      old : (o : Option Plain) → changed_or t (Ok o) ≡ unwrap_or o t
      old (Some u) = refl
      old None = refl

      or_is : (o : Option Plain) → (unfolded name own) t ≡ Ok o → (term_or name own) t ≡ unwrap_or o t
      or_is o i = ap (changed_or t) i ∙ old o

  in_formulas : (fs : List PlainFormula) (p : Option PlainFormulas) → (formulas_unfolded name own) (formulas fs) ≡ Ok p → unwrap_or p (formulas fs) ≡ formulas (map (formula_or name own) fs)
  in_formulas [] p e = ap (λ o. unwrap_or o (formulas [])) (sym (nothing_new p e))
  in_formulas (f ∷ fs) p e =
      let b = both_are MoreFormulas f (formulas fs) ((formula_unfolded name own) f) ((formulas_unfolded name own) (formulas fs)) p e in
      sym b.is ∙ ap (λ g. MoreFormulas g (unwrap_or b.rest (formulas fs))) (sym (or_is b.first b.first_is)) ∙ ap (MoreFormulas ((formula_or name own) f)) (in_formulas fs b.rest b.rest_is)
    where
      old : (o : Option PlainFormula) → changed_or f (Ok o) ≡ unwrap_or o f
      old (Some g) = refl
      old None = refl

      or_is : (o : Option PlainFormula) → (formula_unfolded name own) f ≡ Ok o → (formula_or name own) f ≡ unwrap_or o f
      or_is o i = ap (changed_or f) i ∙ old o

  module _ (a : Assertion) (terms : Option (List Plain)) (props : Option (List PlainFormula)) (t : (terms_unfolded name own) (terms_in a) ≡ Ok terms) (p : (all_unfolded name own) a.props ≡ Ok props) where
    all_terms : unwrap_or terms (terms_in a) ≡ map (term_or name own) (terms_in a)
    all_terms =
        let g = given listed ((unfolded_in name own) (plains (terms_in a))) terms (plains (terms_in a)) t in
        ap (unwrap_or terms) (sym (listed_plains (terms_in a))) ∙ sym g.2 ∙ ap listed (in_all (terms_in a) g.0 g.1) ∙ listed_plains (map (term_or name own) (terms_in a))

    all_props : unwrap_or props a.props ≡ map (formula_or name own) a.props
    all_props =
        let g = given listed_formulas ((formulas_unfolded name own) (formulas a.props)) props (formulas a.props) p in
        ap (unwrap_or props) (sym (listed_formulas_are a.props)) ∙ sym g.2 ∙ ap listed_formulas (in_formulas a.props g.0 g.1) ∙ listed_formulas_are (map (formula_or name own) a.props)

    with_none : (x : Option PlainFormulas) (y : Option Plains) → is_none x ≡ true → is_none y ≡ true → (with_both name own) a (Ok x) (Ok y) ≡ Ok None
    with_none None None i j = refl
    with_none None (Some y) i j = absurd cc
    with_none (Some x) y i j = absurd cc

    with_some : (x : Option PlainFormulas) (y : Option Plains) → (is_none x ≡ true → is_none y ≡ true → ⊥) → (with_both name own) a (Ok x) (Ok y) ≡ Ok (Some (body_mapped (term_or name own) (map (formula_or name own) a.props) a))
    with_some None None n = absurd (n refl refl)
    with_some None (Some y) n = refl
    with_some (Some x) y n = refl

    pub assertion_none : is_none props ≡ true → is_none terms ≡ true → (assertion_unfolded name own) a ≡ Ok None
    assertion_none i j =
        let g = given listed_formulas ((formulas_unfolded name own) (formulas a.props)) props (formulas a.props) p in
        let h = given listed ((unfolded_in name own) (plains (terms_in a))) terms (plains (terms_in a)) t in
        ap (λ x. (with_both name own) a x ((unfolded_in name own) (plains (terms_in a)))) g.1 ∙ ap ((with_both name own) a (Ok g.0)) h.1 ∙ with_none g.0 h.0 (sym g.3 ∙ i) (sym h.3 ∙ j)

    pub assertion_some : (made : Assertion) → (is_none props ≡ true → is_none terms ≡ true → ⊥) → ((f : Plain → Plain) → unwrap_or terms (terms_in a) ≡ map f (terms_in a) → made ≡ body_mapped f (unwrap_or props a.props) a) → (assertion_unfolded name own) a ≡ Ok (Some made)
    assertion_some made n m =
        let g = given listed_formulas ((formulas_unfolded name own) (formulas a.props)) props (formulas a.props) p in
        let h = given listed ((unfolded_in name own) (plains (terms_in a))) terms (plains (terms_in a)) t in
        let is : made ≡ body_mapped (term_or name own) (map (formula_or name own) a.props) a = m (term_or name own) all_terms ∙ ap (λ ps. body_mapped (term_or name own) ps a) all_props in
        ap (λ x. (with_both name own) a x ((unfolded_in name own) (plains (terms_in a)))) g.1 ∙ ap ((with_both name own) a (Ok g.0)) h.1 ∙ with_some g.0 h.0 (λ i j. n (g.3 ∙ i) (h.3 ∙ j)) ∙ ap (λ b. Ok (Some b)) (sym is)

  pub props_stop : (stop : RuleStop) (a : Assertion) → RuleStops stop ((all_unfolded name own) a.props) → RuleStops stop ((assertion_unfolded name own) a)
  props_stop (r.No refusal) a e = ap (λ x. (with_both name own) a x ((unfolded_in name own) (plains (terms_in a)))) (refused_terms listed_formulas ((formulas_unfolded name own) (formulas a.props)) refusal e)
  props_stop r.Memory a e = tt

  terms_stop_by : (a : Assertion) (x : Result (Option PlainFormulas) No) (props : Option (List PlainFormula)) (refusal : No) → as_list listed_formulas x ≡ Ok props → (with_both name own) a x (Err refusal) ≡ Err refusal
  terms_stop_by a (Ok p) props refusal e = refl
  terms_stop_by a (Err other) props refusal e = absurd cc

  pub terms_stop : (stop : RuleStop) (a : Assertion) (props : Option (List PlainFormula)) → (all_unfolded name own) a.props ≡ Ok props → RuleStops stop ((terms_unfolded name own) (terms_in a)) → RuleStops stop ((assertion_unfolded name own) a)
  terms_stop (r.No refusal) a props p e =
      ap ((with_both name own) a ((formulas_unfolded name own) (formulas a.props))) (refused_terms listed ((unfolded_in name own) (plains (terms_in a))) refusal e)
      ∙ terms_stop_by a ((formulas_unfolded name own) (formulas a.props)) props refusal p
  terms_stop r.Memory a props p e = tt
