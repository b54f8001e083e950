-- Formulas of which some change.
use Rattle.std.proofs.Common.{◌≡◌, ℕ, Bool, true, false, ◌||◌, List, [], ◌∷◌, ◌++◌, Option, Some, None, Result, Ok, Err, refl, sym, ap, subst, ◌∙◌, append_assoc}
use Rattle.std.specs.Prelude.{is_none, is_some, if◌then◌else◌}
use Rattle.std.specs.Option.{unwrap_or}
use Rattle.floyd_text.specs.declared.refusal.No.{No}
use Rattle.floyd_text.specs.declared.refusal.RuleStop.{RuleStop}
use Rattle.floyd_text.specs.declared.refusal.RuleStop.TheVariants as r
use Rattle.floyd_text.specs.Gives.{RuleStops}
use Rattle.floyd_tree_sorts.specs.declared.connectives.FormulaHead.{FormulaHead}
use Rattle.floyd_tree.specs.Formulas.{PlainFormula, PlainFormulas, Says, MoreFormulas, form_of, formulas, formulas_of, listed_formulas, terms_of}
use Rattle.floyd_tree.specs.Plain.{Plain, Plains, listed, plains}
use Rattle.floyd_assert_trees.specs.declared.items.Fun.{Fun}
use Rattle.floyd_simplifying.specs.Simplified.{both, formula_written}
use Rattle.floyd_simplifying.specs.SimplifiedClauses.{as_list, joined}
use Rattle.floyd_simplifying.proofs.Joining.{changed_to, join_end, join_start, plains_listed}
use Rattle.floyd_simplifying.proofs.JoiningFormulas.{formulas_listed, listed_formulas_are, refused_terms}
use Rattle.floyd_unfolding.specs.Unfolded.{formula_unfolded, formulas_unfolded, over_both, some_formula, unfolded_in}
use Rattle.floyd_unfolding.specs.UnfoldedClauses.{all_unfolded, both_over, terms_unfolded}

as_first : (o : Option PlainFormula) (f : PlainFormula) (fs : List PlainFormula) (x : Result (Option PlainFormulas) No) (made : List PlainFormula) (changed : Bool) → joined changed made (f ∷ fs) (as_list listed_formulas (both MoreFormulas f (formulas fs) (Ok o) x)) ≡ joined (changed || is_some o) (made ++ unwrap_or o f ∷ []) fs (as_list listed_formulas x)
as_first None f fs (Ok None) made true = ap changed_to (sym (append_assoc made (f ∷ []) fs))
as_first None f fs (Ok None) made false = refl
as_first None f fs (Ok (Some gs)) made true = ap changed_to (sym (append_assoc made (f ∷ []) (listed_formulas gs)))
as_first None f fs (Ok (Some gs)) made false = ap changed_to (sym (append_assoc made (f ∷ []) (listed_formulas gs)))
as_first None f fs (Err refusal) made changed = refl
as_first (Some g) f fs (Ok (Some gs)) made true = ap changed_to (sym (append_assoc made (g ∷ []) (listed_formulas gs)))
as_first (Some g) f fs (Ok (Some gs)) made false = ap changed_to (sym (append_assoc made (g ∷ []) (listed_formulas gs)))
as_first (Some g) f fs (Ok None) made true = ap (λ gs. changed_to (made ++ g ∷ gs)) (listed_formulas_are fs) ∙ ap changed_to (sym (append_assoc made (g ∷ []) fs))
as_first (Some g) f fs (Ok None) made false = ap (λ gs. changed_to (made ++ g ∷ gs)) (listed_formulas_are fs) ∙ ap changed_to (sym (append_assoc made (g ∷ []) fs))
as_first (Some g) f fs (Err refusal) made changed = refl

-- a formula by what becomes of its terms and formulas
pub over_none : (f : PlainFormula) (ts : Option (List Plain)) (ks : Option (List PlainFormula)) → is_none ts ≡ true → is_none ks ≡ true → both_over f ts ks ≡ Ok None
over_none f None None i j = refl
over_none f None (Some ks) i j = absurd cc
over_none f (Some ts) ks i j = absurd cc

over_is : (f : PlainFormula) (ts : Option (List Plain)) (ks : Option (List PlainFormula)) → (is_none ts ≡ true → is_none ks ≡ true → ⊥) → both_over f ts ks ≡ some_formula (formula_written (Says (form_of f) (plains (unwrap_or ts (terms_of f))) (formulas (unwrap_or ks (formulas_of f)))))
over_is f None None n = absurd (n refl refl)
over_is f None (Some ks) n = refl
over_is f (Some ts) ks n = refl

pub over_some : (f made : PlainFormula) (ts : Option (List Plain)) (ks : Option (List PlainFormula)) → (is_none ts ≡ true → is_none ks ≡ true → ⊥) → formula_written (Says (form_of f) (plains (unwrap_or ts (terms_of f))) (formulas (unwrap_or ks (formulas_of f)))) ≡ Ok made → both_over f ts ks ≡ Ok (Some made)
over_some f made ts ks n e = over_is f ts ks n ∙ ap some_formula e

pub over_stops : (stop : RuleStop) (f : PlainFormula) (ts : Option (List Plain)) (ks : Option (List PlainFormula)) → (is_none ts ≡ true → is_none ks ≡ true → ⊥) → RuleStops stop (formula_written (Says (form_of f) (plains (unwrap_or ts (terms_of f))) (formulas (unwrap_or ks (formulas_of f))))) → RuleStops stop (both_over f ts ks)
over_stops (r.No refusal) f ts ks n e = over_is f ts ks n ∙ ap some_formula e
over_stops r.Memory f ts ks n e = tt

given_none : {A B : Type 0} (view : A → B) (o : Option B) → as_list view (Ok None) ≡ Ok o → None ≡ o
given_none view o e = cc

given_some : {A B : Type 0} (view : A → B) (a : A) (o : Option B) → as_list view (Ok (Some a)) ≡ Ok o → Some (view a) ≡ o
given_some view a o e = cc

module _ (name : List ℕ) (own : Fun) (head : FormulaHead) (terms : Plains) (kids : PlainFormulas) (ts : Option (List Plain)) (ks : Option (List PlainFormula)) where
  abbrev whole : PlainFormula
  whole = Says head terms kids

  -- both as lists are both as they stand
  over_by : (x : Result (Option Plains) No) (y : Result (Option PlainFormulas) No) → as_list listed x ≡ Ok ts → as_list listed_formulas y ≡ Ok ks → both_over whole ts ks ≡ (over_both name own) head terms kids x y
  over_by (Ok None) (Ok None) e i =
      ap (λ o. both_over whole o ks) (sym (given_none listed ts e)) ∙ ap (both_over whole None) (sym (given_none listed_formulas ks i))
  over_by (Ok None) (Ok (Some fs)) e i =
      ap (λ o. both_over whole o ks) (sym (given_none listed ts e)) ∙ ap (both_over whole None) (sym (given_some listed_formulas fs ks i))
      ∙ ap (λ us. some_formula (formula_written (Says head us (formulas (listed_formulas fs))))) (plains_listed terms) ∙ ap (λ gs. some_formula (formula_written (Says head terms gs))) (formulas_listed fs)
  over_by (Ok (Some us)) (Ok None) e i =
      ap (λ o. both_over whole o ks) (sym (given_some listed us ts e)) ∙ ap (both_over whole (Some (listed us))) (sym (given_none listed_formulas ks i))
      ∙ ap (λ ws. some_formula (formula_written (Says head ws (formulas (listed_formulas kids))))) (plains_listed us) ∙ ap (λ gs. some_formula (formula_written (Says head us gs))) (formulas_listed kids)
  over_by (Ok (Some us)) (Ok (Some fs)) e i =
      ap (λ o. both_over whole o ks) (sym (given_some listed us ts e)) ∙ ap (both_over whole (Some (listed us))) (sym (given_some listed_formulas fs ks i))
      ∙ ap (λ ws. some_formula (formula_written (Says head ws (formulas (listed_formulas fs))))) (plains_listed us) ∙ ap (λ gs. some_formula (formula_written (Says head us gs))) (formulas_listed fs)
  over_by (Ok x) (Err refusal) e i = absurd cc
  over_by (Err refusal) y e i = absurd cc

module _ (name : List ℕ) (own : Fun) where
  pub formulas_on : (o : Option PlainFormula) (f : PlainFormula) (fs : List PlainFormula) (made : List PlainFormula) (changed : Bool) → (formula_unfolded name own) f ≡ Ok o → joined changed made (f ∷ fs) ((all_unfolded name own) (f ∷ fs)) ≡ joined (changed || is_some o) (made ++ unwrap_or o f ∷ []) fs ((all_unfolded name own) fs)
  formulas_on o f fs made changed e =
      ap (λ x. joined changed made (f ∷ fs) (as_list listed_formulas (both MoreFormulas f (formulas fs) x ((formulas_unfolded name own) (formulas fs))))) e
      ∙ as_first o f fs ((formulas_unfolded name own) (formulas fs)) made changed

  pub formulas_start : (fs : List PlainFormula) → joined false [] fs ((all_unfolded name own) fs) ≡ (all_unfolded name own) fs
  formulas_start fs = join_start fs ((all_unfolded name own) fs)

  pub formulas_end : (changed : Bool) (made : List PlainFormula) → joined changed made [] ((all_unfolded name own) []) ≡ Ok (if changed then Some made else None)
  formulas_end changed made = join_end changed made

  pub formulas_stop : (stop : RuleStop) (f : PlainFormula) (fs : List PlainFormula) (made : List PlainFormula) (changed : Bool) → RuleStops stop ((formula_unfolded name own) f) → RuleStops stop (joined changed made (f ∷ fs) ((all_unfolded name own) (f ∷ fs)))
  formulas_stop (r.No refusal) f fs made changed e =
      ap (λ x. joined changed made (f ∷ fs) (as_list listed_formulas (both MoreFormulas f (formulas fs) x ((formulas_unfolded name own) (formulas fs))))) e
  formulas_stop r.Memory f fs made changed e = tt

  pub formula_is : (f : PlainFormula) (ts : Option (List Plain)) (ks : Option (List PlainFormula)) → (terms_unfolded name own) (terms_of f) ≡ Ok ts → (all_unfolded name own) (formulas_of f) ≡ Ok ks → both_over f ts ks ≡ (formula_unfolded name own) f
  formula_is (Says head terms kids) ts ks e i =
      over_by name own head terms kids ts ks ((unfolded_in name own) terms) ((formulas_unfolded name own) kids)
      (subst (λ us. as_list listed ((unfolded_in name own) us) ≡ Ok ts) (plains_listed terms) e)
      (subst (λ gs. as_list listed_formulas ((formulas_unfolded name own) gs) ≡ Ok ks) (formulas_listed kids) i)

  pub formula_stops : (stop : RuleStop) (f : PlainFormula) → RuleStops stop ((terms_unfolded name own) (terms_of f)) → RuleStops stop ((formula_unfolded name own) f)
  formula_stops (r.No refusal) (Says head terms kids) e =
      ap (λ ts. (over_both name own) head terms kids ((unfolded_in name own) ts) ((formulas_unfolded name own) kids)) (sym (plains_listed terms))
      ∙ ap (λ x. (over_both name own) head terms kids x ((formulas_unfolded name own) kids)) (refused_terms listed ((unfolded_in name own) (plains (listed terms))) refusal e)
  formula_stops r.Memory f e = tt

  stops_below : (head : FormulaHead) (terms : Plains) (kids : PlainFormulas) (x : Result (Option Plains) No) (ts : Option (List Plain)) (refusal : No) → as_list listed x ≡ Ok ts → (over_both name own) head terms kids x (Err refusal) ≡ Err refusal
  stops_below head terms kids (Ok None) ts refusal e = refl
  stops_below head terms kids (Ok (Some us)) ts refusal e = refl
  stops_below head terms kids (Err other) ts refusal e = absurd cc

  pub formula_stops_below : (stop : RuleStop) (f : PlainFormula) (ts : Option (List Plain)) → (terms_unfolded name own) (terms_of f) ≡ Ok ts → RuleStops stop ((all_unfolded name own) (formulas_of f)) → RuleStops stop ((formula_unfolded name own) f)
  formula_stops_below (r.No refusal) (Says head terms kids) ts e i =
      ap (λ gs. (over_both name own) head terms kids ((unfolded_in name own) terms) ((formulas_unfolded name own) gs)) (sym (formulas_listed kids))
      ∙ ap ((over_both name own) head terms kids ((unfolded_in name own) terms)) (refused_terms listed_formulas ((formulas_unfolded name own) (formulas (listed_formulas kids))) refusal i)
      ∙ stops_below head terms kids ((unfolded_in name own) terms) ts refusal (subst (λ us. as_list listed ((unfolded_in name own) us) ≡ Ok ts) (plains_listed terms) e)
  formula_stops_below r.Memory f ts e i = tt
