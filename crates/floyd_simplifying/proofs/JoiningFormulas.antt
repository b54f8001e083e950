-- Formulas of which some change.
use Rattle.std.proofs.Common.{◌≡◌, Bool, true, false, ◌||◌, List, [], ◌∷◌, ◌++◌, Option, Some, None, Result, Ok, Err, refl, sym, ap, subst, ◌∙◌, append_assoc, ◌≤◌, ◌<◌, length, get_or, arith}
use Rattle.std.specs.Prelude.{is_none, is_some, if◌then◌else◌}
use Rattle.std.specs.Option.{unwrap_or}
use Rattle.floyd_text.specs.declared.refusal.No.{No}
use Rattle.floyd_text.specs.declared.refusal.RuleStop.{RuleStop}
use Rattle.floyd_text.specs.declared.refusal.RuleStop.TheVariants as r
use Rattle.floyd_text.specs.Gives.{RuleStops}
use Rattle.floyd_tree_sorts.specs.declared.connectives.FormulaHead.{FormulaHead}
use Rattle.floyd_tree_sorts.specs.declared.connectives.FormulaHead.TheVariants.{Equal}
use Rattle.floyd_tree.specs.declared.stop.MakeStop.TheVariants.{IllSorted, TooLarge}
use Rattle.floyd_tree.specs.Formulas.{PlainFormula, PlainFormulas, Says, NoFormula, MoreFormulas, form_of, formulas, formulas_of, listed_formulas, terms_of, well_sorted}
use Rattle.floyd_tree.specs.Made.{unless}
use Rattle.floyd_tree.specs.MadeFormulas.{formula_fault_at, formula_fits}
use Rattle.floyd_tree.specs.Plain.{Plain, Plains, Done, More, listed, plains}
use Rattle.floyd_fieldpath.specs.Written.{ill_sorted, too_large}
use Rattle.floyd_simplifying.specs.Simplified.{both, formula_over, formula_simplified, formula_written, formulas_simplified, is_identity, over_both, simplified_in, true_or}
use Rattle.floyd_simplifying.specs.SimplifiedClauses.{all_simplified, as_list, both_over, identical, joined, terms_simplified}
use Rattle.floyd_simplifying.proofs.Joining.{changed_to, join_end, join_start, plains_listed}

pub listed_formulas_are : (fs : List PlainFormula) → listed_formulas (formulas fs) ≡ fs
listed_formulas_are [] = refl
listed_formulas_are (f ∷ fs) = ap (λ gs. f ∷ gs) (listed_formulas_are fs)

pub formulas_listed : (fs : PlainFormulas) → formulas (listed_formulas fs) ≡ fs
formulas_listed NoFormula = refl
formulas_listed (MoreFormulas f fs) = ap (MoreFormulas f) (formulas_listed fs)

pub two_terms : (ts : List Plain) (a b : Plain) → 2 ≤ length ts → length ts < 3 → a ≡ get_or ts 0 a → b ≡ get_or ts 1 b → ts ≡ a ∷ b ∷ []
two_terms [] a b h k e g = absurd (omega (arith, h))
two_terms (x ∷ []) a b h k e g = absurd (omega (arith, h))
two_terms (x ∷ y ∷ []) a b h k e g = ap (λ z. z ∷ y ∷ []) (sym e) ∙ ap (λ z. a ∷ z ∷ []) (sym g)
two_terms (x ∷ y ∷ z ∷ ts) a b h k e g = absurd (omega (arith, k))

pub identity_is : (f : PlainFormula) → identical (form_of f) (terms_of f) ≡ is_identity f
identity_is (Says Equal Done kids) = refl
identity_is (Says Equal (More a Done) kids) = refl
identity_is (Says Equal (More a (More b Done)) kids) = refl
identity_is (Says Equal (More a (More b (More c ts))) kids) = refl
identity_is (Says head terms kids) = refl

as_first : (o : Option PlainFormula) (f : PlainFormula) (fs : List PlainFormula) (x : Result (Option PlainFormulas) No) (made : List PlainFormula) (changed : Bool) → joined changed made (f ∷ fs) (as_list listed_formulas (both MoreFormulas f (formulas fs) (Ok o) x)) ≡ joined (changed || is_some o) (made ++ unwrap_or o f ∷ []) fs (as_list listed_formulas x)
as_first None f fs (Ok None) made true = ap changed_to (sym (append_assoc made (f ∷ []) fs))
as_first None f fs (Ok None) made false = refl
as_first None f fs (Ok (Some gs)) made true = ap changed_to (sym (append_assoc made (f ∷ []) (listed_formulas gs)))
as_first None f fs (Ok (Some gs)) made false = ap changed_to (sym (append_assoc made (f ∷ []) (listed_formulas gs)))
as_first None f fs (Err refusal) made changed = refl
as_first (Some g) f fs (Ok (Some gs)) made true = ap changed_to (sym (append_assoc made (g ∷ []) (listed_formulas gs)))
as_first (Some g) f fs (Ok (Some gs)) made false = ap changed_to (sym (append_assoc made (g ∷ []) (listed_formulas gs)))
as_first (Some g) f fs (Ok None) made true = ap (λ gs. changed_to (made ++ g ∷ gs)) (listed_formulas_are fs) ∙ ap changed_to (sym (append_assoc made (g ∷ []) fs))
as_first (Some g) f fs (Ok None) made false = ap (λ gs. changed_to (made ++ g ∷ gs)) (listed_formulas_are fs) ∙ ap changed_to (sym (append_assoc made (g ∷ []) fs))
as_first (Some g) f fs (Err refusal) made changed = refl

pub formulas_on : (o : Option PlainFormula) (f : PlainFormula) (fs : List PlainFormula) (made : List PlainFormula) (changed : Bool) → formula_simplified f ≡ Ok o → joined changed made (f ∷ fs) (all_simplified (f ∷ fs)) ≡ joined (changed || is_some o) (made ++ unwrap_or o f ∷ []) fs (all_simplified fs)
formulas_on o f fs made changed e =
    ap (λ x. joined changed made (f ∷ fs) (as_list listed_formulas (both MoreFormulas f (formulas fs) x (formulas_simplified (formulas fs))))) e
    ∙ as_first o f fs (formulas_simplified (formulas fs)) made changed

pub formulas_start : (fs : List PlainFormula) → joined false [] fs (all_simplified fs) ≡ all_simplified fs
formulas_start fs = join_start fs (all_simplified fs)

pub formulas_end : (changed : Bool) (made : List PlainFormula) → joined changed made [] (all_simplified []) ≡ Ok (if changed then Some made else None)
formulas_end changed made = join_end changed made

pub formulas_stop : (stop : RuleStop) (f : PlainFormula) (fs : List PlainFormula) (made : List PlainFormula) (changed : Bool) → RuleStops stop (formula_simplified f) → RuleStops stop (joined changed made (f ∷ fs) (all_simplified (f ∷ fs)))
formulas_stop (r.No refusal) f fs made changed e =
    ap (λ x. joined changed made (f ∷ fs) (as_list listed_formulas (both MoreFormulas f (formulas fs) x (formulas_simplified (formulas fs))))) e
formulas_stop r.Memory f fs made changed e = tt

-- a formula that was made, or not
pub formula_made : (f g : PlainFormula) → unless (formula_fault_at f) f ≡ Ok g → formula_written f ≡ Ok g
formula_made f g e = by (well_sorted f) (formula_fits f) e
  where
    by : (a b : Bool) → unless (if a then (if b then None else Some TooLarge) else Some IllSorted) f ≡ Ok g → (if a then (if b then Ok f else Err too_large) else Err ill_sorted) ≡ Ok g
    by true true i = cc
    by true false i = absurd cc
    by false b i = absurd cc

pub formula_ill : (f : PlainFormula) → unless (formula_fault_at f) f ≡ Err IllSorted → formula_written f ≡ Err ill_sorted
formula_ill f e = by (well_sorted f) (formula_fits f) e
  where
    by : (a b : Bool) → unless (if a then (if b then None else Some TooLarge) else Some IllSorted) f ≡ Err IllSorted → (if a then (if b then Ok f else Err too_large) else Err ill_sorted) ≡ Err ill_sorted
    by true true i = absurd cc
    by true false i = absurd cc
    by false b i = refl

pub formula_large : (f : PlainFormula) → unless (formula_fault_at f) f ≡ Err TooLarge → formula_written f ≡ Err too_large
formula_large f e = by (well_sorted f) (formula_fits f) e
  where
    by : (a b : Bool) → unless (if a then (if b then None else Some TooLarge) else Some IllSorted) f ≡ Err TooLarge → (if a then (if b then Ok f else Err too_large) else Err ill_sorted) ≡ Err too_large
    by true true i = absurd cc
    by true false i = refl
    by false b i = absurd cc

-- a formula by what becomes of its terms and formulas
pub over_none : (f : PlainFormula) (ts : Option (List Plain)) (ks : Option (List PlainFormula)) → is_none ts ≡ true → is_none ks ≡ true → both_over f ts ks ≡ Ok (true_or false f)
over_none f None None i j = refl
over_none f None (Some ks) i j = absurd cc
over_none f (Some ts) ks i j = absurd cc

pub over_some : (f : PlainFormula) (ts : Option (List Plain)) (ks : Option (List PlainFormula)) → (is_none ts ≡ true → is_none ks ≡ true → ⊥) → formula_over (Says (form_of f) (plains (unwrap_or ts (terms_of f))) (formulas (unwrap_or ks (formulas_of f)))) ≡ both_over f ts ks
over_some f None None n = absurd (n refl refl)
over_some f None (Some ks) n = refl
over_some f (Some ts) ks n = refl

pub refused_terms : {A B : Type 0} (view : A → B) (x : Result (Option A) No) (refusal : No) → as_list view x ≡ Err refusal → x ≡ Err refusal
refused_terms view (Err other) refusal e = let same : other ≡ refusal = cc in ap (λ (q : No). Err q) same
refused_terms view (Ok None) refusal e = absurd cc
refused_terms view (Ok (Some us)) refusal e = absurd cc

given_none : {A B : Type 0} (view : A → B) (o : Option B) → as_list view (Ok None) ≡ Ok o → None ≡ o
given_none view o e = cc

given_some : {A B : Type 0} (view : A → B) (a : A) (o : Option B) → as_list view (Ok (Some a)) ≡ Ok o → Some (view a) ≡ o
given_some view a o e = cc

module _ (head : FormulaHead) (terms : Plains) (kids : PlainFormulas) (ts : Option (List Plain)) (ks : Option (List PlainFormula)) where
  abbrev whole : PlainFormula
  whole = Says head terms kids

  -- both as lists are both as they stand
  over_by : (x : Result (Option Plains) No) (y : Result (Option PlainFormulas) No) → as_list listed x ≡ Ok ts → as_list listed_formulas y ≡ Ok ks → both_over whole ts ks ≡ over_both head terms kids x y
  over_by (Ok None) (Ok None) e i =
      ap (λ o. both_over whole o ks) (sym (given_none listed ts e)) ∙ ap (both_over whole None) (sym (given_none listed_formulas ks i))
  over_by (Ok None) (Ok (Some fs)) e i =
      ap (λ o. both_over whole o ks) (sym (given_none listed ts e)) ∙ ap (both_over whole None) (sym (given_some listed_formulas fs ks i))
      ∙ ap (λ us. formula_over (Says head us (formulas (listed_formulas fs)))) (plains_listed terms) ∙ ap (λ gs. formula_over (Says head terms gs)) (formulas_listed fs)
  over_by (Ok (Some us)) (Ok None) e i =
      ap (λ o. both_over whole o ks) (sym (given_some listed us ts e)) ∙ ap (both_over whole (Some (listed us))) (sym (given_none listed_formulas ks i))
      ∙ ap (λ ws. formula_over (Says head ws (formulas (listed_formulas kids)))) (plains_listed us) ∙ ap (λ gs. formula_over (Says head us gs)) (formulas_listed kids)
  over_by (Ok (Some us)) (Ok (Some fs)) e i =
      ap (λ o. both_over whole o ks) (sym (given_some listed us ts e)) ∙ ap (both_over whole (Some (listed us))) (sym (given_some listed_formulas fs ks i))
      ∙ ap (λ ws. formula_over (Says head ws (formulas (listed_formulas fs)))) (plains_listed us) ∙ ap (λ gs. formula_over (Says head us gs)) (formulas_listed fs)
  over_by (Ok x) (Err refusal) e i = absurd cc
  over_by (Err refusal) y e i = absurd cc

pub formula_is : (f : PlainFormula) (ts : Option (List Plain)) (ks : Option (List PlainFormula)) → terms_simplified (terms_of f) ≡ Ok ts → all_simplified (formulas_of f) ≡ Ok ks → both_over f ts ks ≡ formula_simplified f
formula_is (Says head terms kids) ts ks e i =
    over_by head terms kids ts ks (simplified_in terms) (formulas_simplified kids)
    (subst (λ us. as_list listed (simplified_in us) ≡ Ok ts) (plains_listed terms) e)
    (subst (λ gs. as_list listed_formulas (formulas_simplified gs) ≡ Ok ks) (formulas_listed kids) i)

pub formula_stops : (stop : RuleStop) (f : PlainFormula) → RuleStops stop (terms_simplified (terms_of f)) → RuleStops stop (formula_simplified f)
formula_stops (r.No refusal) (Says head terms kids) e =
    ap (λ ts. over_both head terms kids (simplified_in ts) (formulas_simplified kids)) (sym (plains_listed terms))
    ∙ ap (λ x. over_both head terms kids x (formulas_simplified kids)) (refused_terms listed (simplified_in (plains (listed terms))) refusal e)
formula_stops r.Memory f e = tt

stops_below : (head : FormulaHead) (terms : Plains) (kids : PlainFormulas) (x : Result (Option Plains) No) (ts : Option (List Plain)) (refusal : No) → as_list listed x ≡ Ok ts → over_both head terms kids x (Err refusal) ≡ Err refusal
stops_below head terms kids (Ok None) ts refusal e = refl
stops_below head terms kids (Ok (Some us)) ts refusal e = refl
stops_below head terms kids (Err other) ts refusal e = absurd cc

pub formula_stops_below : (stop : RuleStop) (f : PlainFormula) (ts : Option (List Plain)) → terms_simplified (terms_of f) ≡ Ok ts → RuleStops stop (all_simplified (formulas_of f)) → RuleStops stop (formula_simplified f)
formula_stops_below (r.No refusal) (Says head terms kids) ts e i =
    ap (λ gs. over_both head terms kids (simplified_in terms) (formulas_simplified gs)) (sym (formulas_listed kids))
    ∙ ap (over_both head terms kids (simplified_in terms)) (refused_terms listed_formulas (formulas_simplified (formulas (listed_formulas kids))) refusal i)
    ∙ stops_below head terms kids (simplified_in terms) ts refusal (subst (λ us. as_list listed (simplified_in us) ≡ Ok ts) (plains_listed terms) e)
formula_stops_below r.Memory f ts e i = tt
