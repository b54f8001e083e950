-- Formulas with holes: well sorted where they were, no larger and no higher, and the same where there is no occurrence.
use Rattle.std.proofs.Common.{◌≡◌, ◌≤◌, Bool, true, false, not, ◌&&◌, ◌||◌, List, [], ◌∷◌, map, length, Option, Some, None, refl, sym, ap, subst, ◌∙◌, arith, le-leb}
use Rattle.std.specs.Prelude.{is_some, nat_le, if◌then◌else◌}
use Rattle.std.specs.Option.{unwrap_or}
use Rattle.floyd_tree_sorts.specs.declared.connectives.FormulaHead.{FormulaHead}
use Rattle.floyd_tree.specs.declared.stop.MakeStop.TheVariants.{IllSorted, TooLarge}
use Rattle.floyd_tree.specs.Formulas.{PlainFormula, PlainFormulas, Says, NoFormula, MoreFormulas, all_well_sorted, form_of, formula_height, formula_heights, formula_size, formula_sizes, formulas, formulas_of, listed_formulas, takes_all, terms_of, well_sorted}
use Rattle.floyd_tree.specs.MadeFormulas.{formula_fault_at, formula_fits}
use Rattle.floyd_tree.specs.Plain.{Plain, listed, plains}
use Rattle.floyd_tree.specs.WellSorted.{sorts_of}
use Rattle.floyd_truth.proofs.Fresh.{neither}
use Rattle.floyd_rewriting.specs.Holes.{formula_opened, formulas_opened, opened, opened_in}
use Rattle.floyd_rewriting.specs.HolesClauses.{IsHole, formula_after, formulas_after, if_so, kids_after, terms_after}
use Rattle.floyd_rewriting.specs.Occurrences.{formula_occurs, formulas_occur, hides, occurs_in}
use Rattle.floyd_rewriting.proofs.TermsOpened.{heights_less, none_so, opened_listed, plains_listed, same_terms_kept, sizes_less, sorts_kept, terms_or}

pub formulas_listed : (fs : PlainFormulas) → formulas (listed_formulas fs) ≡ fs
formulas_listed NoFormula = refl
formulas_listed (MoreFormulas f fs) = ap (MoreFormulas f) (formulas_listed fs)

pub formula_fine : (f : PlainFormula) → well_sorted f ≡ true → formula_size f ≤ 65536 → formula_height f ≤ 256 → formula_fault_at f ≡ None
formula_fine f s l h =
    let small : nat_le (formula_size f) 65536 ≡ true = le-leb (formula_size f) 65536 l in
    let low : nat_le (formula_height f) 256 ≡ true = le-leb (formula_height f) 256 h in
    let both : formula_fits f ≡ true = ap (λ c. c && nat_le (formula_height f) 256) small ∙ low in
    ap (λ c. if c then (if formula_fits f then None else Some TooLarge) else Some IllSorted) s ∙ ap (λ c. if c then None else Some TooLarge) both

visible : (h k : Bool) → (not h && k) ≡ false → h ≡ false → k ≡ false
visible true k e i = absurd cc
visible false k e i = e

module _ (from hole : Plain) where
  mutual
    pub same_formula_kept : (f : PlainFormula) → formula_occurs from f ≡ false → formula_opened from hole f ≡ f
    same_formula_kept (Says head terms kids) e =
        let p = neither (occurs_in from terms) (not (hides from head) && formulas_occur from kids) e in
        ap (λ ts. Says head ts (if hides from head then kids else formulas_opened from hole kids)) (same_terms_kept from hole terms p.0)
        ∙ ap (Says head terms) (by (hides from head) refl p.1 (same_formulas_kept kids))
      where
        by : (b : Bool) → hides from head ≡ b → (not (hides from head) && formulas_occur from kids) ≡ false → (formulas_occur from kids ≡ false → formulas_opened from hole kids ≡ kids) → (if b then kids else formulas_opened from hole kids) ≡ kids
        by true i e below = refl
        by false i e below = below (visible (hides from head) (formulas_occur from kids) e i)

    pub same_formulas_kept : (fs : PlainFormulas) → formulas_occur from fs ≡ false → formulas_opened from hole fs ≡ fs
    same_formulas_kept NoFormula e = refl
    same_formulas_kept (MoreFormulas f fs) e =
        let p = neither (formula_occurs from f) (formulas_occur from fs) e in
        ap (λ g. MoreFormulas g (formulas_opened from hole fs)) (same_formula_kept f p.0) ∙ ap (MoreFormulas f) (same_formulas_kept fs p.1)

  pub formulas_opened_listed : (fs : PlainFormulas) → formulas (map (formula_opened from hole) (listed_formulas fs)) ≡ formulas_opened from hole fs
  formulas_opened_listed NoFormula = refl
  formulas_opened_listed (MoreFormulas f fs) = ap (MoreFormulas (formula_opened from hole f)) (formulas_opened_listed fs)

  pub formulas_opened_plain : (fs : List PlainFormula) → formulas_opened from hole (formulas fs) ≡ formulas (map (formula_opened from hole) fs)
  formulas_opened_plain [] = refl
  formulas_opened_plain (f ∷ fs) = ap (MoreFormulas (formula_opened from hole f)) (formulas_opened_plain fs)

  pub all_formulas_kept : (fs : List PlainFormula) → formulas_occur from (formulas fs) ≡ false → map (formula_opened from hole) fs ≡ fs
  all_formulas_kept [] e = refl
  all_formulas_kept (f ∷ fs) e =
      let p = neither (formula_occurs from f) (formulas_occur from (formulas fs)) e in
      ap (λ g. g ∷ map (formula_opened from hole) fs) (same_formula_kept f p.0) ∙ ap (λ gs. f ∷ gs) (all_formulas_kept fs p.1)

  formula_or_by : (f : PlainFormula) (b : Bool) → formula_occurs from f ≡ b → unwrap_or (if_so b (formula_opened from hole f)) f ≡ formula_opened from hole f
  formula_or_by f true e = refl
  formula_or_by f false e = sym (same_formula_kept f e)

  pub formula_or : (f : PlainFormula) → unwrap_or (formula_after from hole f) f ≡ formula_opened from hole f
  formula_or f = formula_or_by f (formula_occurs from f) refl

  told_by : {T : Type 0} (b : Bool) (x : T) → is_some (if_so b x) ≡ b
  told_by true x = refl
  told_by false x = refl

  pub formula_told : (f : PlainFormula) → is_some (formula_after from hole f) ≡ formula_occurs from f
  formula_told f = told_by (formula_occurs from f) (formula_opened from hole f)

  formulas_or_by : (fs : List PlainFormula) (b : Bool) → formulas_occur from (formulas fs) ≡ b → unwrap_or (if_so b (map (formula_opened from hole) fs)) fs ≡ map (formula_opened from hole) fs
  formulas_or_by fs true e = refl
  formulas_or_by fs false e = sym (all_formulas_kept fs e)

  pub formulas_or : (fs : List PlainFormula) → unwrap_or (formulas_after from hole fs) fs ≡ map (formula_opened from hole) fs
  formulas_or fs = formulas_or_by fs (formulas_occur from (formulas fs)) refl

  -- the formulas below a head, with their own where there is no occurrence in them
  kids_or_by : (head : FormulaHead) (kids : PlainFormulas) (b : Bool) → hides from head ≡ b → formulas (unwrap_or (if b then None else formulas_after from hole (listed_formulas kids)) (listed_formulas kids)) ≡ (if b then kids else formulas_opened from hole kids)
  kids_or_by head kids true i = formulas_listed kids
  kids_or_by head kids false i = ap formulas (formulas_or (listed_formulas kids)) ∙ formulas_opened_listed kids

  -- the formula over terms and formulas with holes
  pub over_both : (f : PlainFormula) (ts : Option (List Plain)) (ks : Option (List PlainFormula)) → ts ≡ terms_after from hole (terms_of f) → ks ≡ kids_after from hole f → Says (form_of f) (plains (unwrap_or ts (terms_of f))) (formulas (unwrap_or ks (formulas_of f))) ≡ formula_opened from hole f
  over_both (Says head terms kids) ts ks t k =
      ap (λ us. Says head (plains us) (formulas (unwrap_or ks (listed_formulas kids)))) (ap (λ o. unwrap_or o (listed terms)) t ∙ terms_or from hole (listed terms))
      ∙ ap (λ us. Says head us (formulas (unwrap_or ks (listed_formulas kids)))) (opened_listed from hole terms)
      ∙ ap (λ o. Says head (opened_in from hole terms) (formulas (unwrap_or o (listed_formulas kids)))) k
      ∙ ap (Says head (opened_in from hole terms)) (kids_or_by head kids (hides from head) refl)

  none_below : (head : FormulaHead) (kids : PlainFormulas) (b : Bool) → hides from head ≡ b → None ≡ (if b then None else formulas_after from hole (listed_formulas kids)) → (not b && formulas_occur from kids) ≡ false
  none_below head kids true i e = refl
  none_below head kids false i e =
      ap (formulas_occur from) (sym (formulas_listed kids)) ∙ none_so (formulas_occur from (formulas (listed_formulas kids))) (map (formula_opened from hole) (listed_formulas kids)) e

  some_below : (head : FormulaHead) (kids : PlainFormulas) (b : Bool) (ks : List PlainFormula) → hides from head ≡ b → Some ks ≡ (if b then None else formulas_after from hole (listed_formulas kids)) → (not b && formulas_occur from kids) ≡ true
  some_below head kids true ks i e = absurd cc
  some_below head kids false ks i e = ap (formulas_occur from) (sym (formulas_listed kids)) ∙ by (formulas_occur from (formulas (listed_formulas kids))) e
    where
      by : (c : Bool) → Some ks ≡ if_so c (map (formula_opened from hole) (listed_formulas kids)) → c ≡ true
      by true e = refl
      by false e = absurd cc

  -- whether there is an occurrence
  occurs_by : (f : PlainFormula) (ts : Option (List Plain)) (ks : Option (List PlainFormula)) → ts ≡ terms_after from hole (terms_of f) → ks ≡ kids_after from hole f → formula_occurs from f ≡ (is_some ts || is_some ks)
  occurs_by (Says head terms kids) None None t k =
      ap (λ b. b || (not (hides from head) && formulas_occur from kids)) (ap (occurs_in from) (sym (plains_listed terms)) ∙ none_so (occurs_in from (plains (listed terms))) (map (opened from hole) (listed terms)) t)
      ∙ none_below head kids (hides from head) refl k
  occurs_by (Says head terms kids) None (Some ks) t k =
      ap (λ b. b || (not (hides from head) && formulas_occur from kids)) (ap (occurs_in from) (sym (plains_listed terms)) ∙ none_so (occurs_in from (plains (listed terms))) (map (opened from hole) (listed terms)) t)
      ∙ some_below head kids (hides from head) ks refl k
  occurs_by (Says head terms kids) (Some ts) ks t k =
      ap (λ b. b || (not (hides from head) && formulas_occur from kids)) (ap (occurs_in from) (sym (plains_listed terms)) ∙ by (occurs_in from (plains (listed terms))) t)
    where
      by : (c : Bool) → Some ts ≡ if_so c (map (opened from hole) (listed terms)) → c ≡ true
      by true e = refl
      by false e = absurd cc

  pub formula_none : (f : PlainFormula) (ts : Option (List Plain)) (ks : Option (List PlainFormula)) → ts ≡ terms_after from hole (terms_of f) → ks ≡ kids_after from hole f → is_some ts ≡ false → is_some ks ≡ false → None ≡ formula_after from hole f
  formula_none f ts ks t k a b = sym (ap (λ c. if_so c (formula_opened from hole f)) (occurs_by f ts ks t k ∙ ap (λ c. c || is_some ks) a ∙ b))

  pub formula_some : (f : PlainFormula) (ts : Option (List Plain)) (ks : Option (List PlainFormula)) → ts ≡ terms_after from hole (terms_of f) → ks ≡ kids_after from hole f → (is_some ts || is_some ks) ≡ true → Some (Says (form_of f) (plains (unwrap_or ts (terms_of f))) (formulas (unwrap_or ks (formulas_of f)))) ≡ formula_after from hole f
  formula_some f ts ks t k a = ap Some (over_both f ts ks t k) ∙ sym (ap (λ c. if_so c (formula_opened from hole f)) (occurs_by f ts ks t k ∙ a))

module _ (from hole : Plain) (is : IsHole from hole) where
  mutual
    pub well_sorted_kept : (f : PlainFormula) → well_sorted (formula_opened from hole f) ≡ well_sorted f
    well_sorted_kept (Says head terms kids) =
        ap (λ o. takes_all head o (length (listed_formulas (if hides from head then kids else formulas_opened from hole kids))) && all_well_sorted (if hides from head then kids else formulas_opened from hole kids)) (sorts_kept from hole is terms)
        ∙ by (hides from head) (count_kept kids) (all_well_sorted_kept kids)
      where
        by : (b : Bool) → length (listed_formulas (formulas_opened from hole kids)) ≡ length (listed_formulas kids) → all_well_sorted (formulas_opened from hole kids) ≡ all_well_sorted kids → (takes_all head (sorts_of terms) (length (listed_formulas (if b then kids else formulas_opened from hole kids))) && all_well_sorted (if b then kids else formulas_opened from hole kids)) ≡ well_sorted (Says head terms kids)
        by true count below = refl
        by false count below =
            ap (λ n. takes_all head (sorts_of terms) n && all_well_sorted (formulas_opened from hole kids)) count
            ∙ ap (λ b. takes_all head (sorts_of terms) (length (listed_formulas kids)) && b) below

    pub all_well_sorted_kept : (fs : PlainFormulas) → all_well_sorted (formulas_opened from hole fs) ≡ all_well_sorted fs
    all_well_sorted_kept NoFormula = refl
    all_well_sorted_kept (MoreFormulas f fs) =
        ap (λ b. b && all_well_sorted (formulas_opened from hole fs)) (well_sorted_kept f) ∙ ap (λ b. well_sorted f && b) (all_well_sorted_kept fs)

    count_kept : (fs : PlainFormulas) → length (listed_formulas (formulas_opened from hole fs)) ≡ length (listed_formulas fs)
    count_kept NoFormula = refl
    count_kept (MoreFormulas f fs) = omega (arith, count_kept fs)

  mutual
    pub formula_size_less : (f : PlainFormula) → formula_size (formula_opened from hole f) ≤ formula_size f
    formula_size_less (Says head terms kids) = by (hides from head) (formula_sizes_less kids)
      where
        by : (b : Bool) → formula_sizes (formulas_opened from hole kids) ≤ formula_sizes kids → formula_size (Says head (opened_in from hole terms) (if b then kids else formulas_opened from hole kids)) ≤ formula_size (Says head terms kids)
        by true below = omega (arith, sizes_less from hole is terms)
        by false below = omega (arith, sizes_less from hole is terms, below)

    pub formula_sizes_less : (fs : PlainFormulas) → formula_sizes (formulas_opened from hole fs) ≤ formula_sizes fs
    formula_sizes_less NoFormula = omega arith
    formula_sizes_less (MoreFormulas f fs) = omega (arith, formula_size_less f, formula_sizes_less fs)

  mutual
    pub formula_height_less : (f : PlainFormula) → formula_height (formula_opened from hole f) ≤ formula_height f
    formula_height_less (Says head terms kids) = by (hides from head) (formula_heights_less kids)
      where
        by : (b : Bool) → formula_heights (formulas_opened from hole kids) ≤ formula_heights kids → formula_height (Says head (opened_in from hole terms) (if b then kids else formulas_opened from hole kids)) ≤ formula_height (Says head terms kids)
        by true below = omega (arith, heights_less from hole is terms)
        by false below = omega (arith, heights_less from hole is terms, below)

    pub formula_heights_less : (fs : PlainFormulas) → formula_heights (formulas_opened from hole fs) ≤ formula_heights fs
    formula_heights_less NoFormula = omega arith
    formula_heights_less (MoreFormulas f fs) = omega (arith, formula_height_less f, formula_heights_less fs)

  -- a formula with holes can be made
  pub both_fine : (f : PlainFormula) (ts : Option (List Plain)) (ks : Option (List PlainFormula)) → ts ≡ terms_after from hole (terms_of f) → ks ≡ kids_after from hole f → well_sorted f ≡ true → formula_size f ≤ 65536 → formula_height f ≤ 256 → formula_fault_at (Says (form_of f) (plains (unwrap_or ts (terms_of f))) (formulas (unwrap_or ks (formulas_of f)))) ≡ None
  both_fine f ts ks t k sorted small low =
      subst (λ g. formula_fault_at g ≡ None) (sym (over_both from hole f ts ks t k))
      (formula_fine (formula_opened from hole f) (well_sorted_kept f ∙ sorted) (omega (arith, formula_size_less f, small)) (omega (arith, formula_height_less f, low)))
