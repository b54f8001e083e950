-- A well-formed formula is well formed as what it is simplified to.
use Rattle.std.proofs.Common.{◌≡◌, Bool, true, false, ◌&&◌, cond, List, [], ◌∷◌, map, length, Option, Some, None, Result, Ok, Err, refl, sym, ap, ◌∙◌, subst}
use Rattle.std.specs.Option.{unwrap_or}
use Rattle.floyd_text.specs.declared.refusal.No.{No}
use Rattle.floyd_tree_sorts.specs.declared.connectives.FormulaHead.{FormulaHead}
use Rattle.floyd_tree_sorts.proofs.SortLemmas.{both_true}
use Rattle.floyd_tree.specs.Formulas.{PlainFormula, PlainFormulas, Says, NoFormula, MoreFormulas, all_well_sorted, listed_formulas, takes_all, well_sorted}
use Rattle.floyd_tree.specs.MadeFormulas.{formula_fits}
use Rattle.floyd_tree.specs.Plain.{Plains}
use Rattle.floyd_tree.specs.WellSorted.{sorts_of}
use Rattle.floyd_tree_values.specs.Rules.{Scope}
use Rattle.floyd_assert_trees.specs.declared.items.Defs.{Defs}
use Rattle.floyd_assert_trees.specs.declared.spec.SpecTable.{SpecTable}
use Rattle.floyd_assert_trees.specs.Meanings.{value_defs}
use Rattle.floyd_fieldpath.specs.Written.{ill_sorted, too_large}
use Rattle.floyd_goal_formulas.specs.Fits.{AreAllowed, IsAllowed, scope_below}
use Rattle.floyd_goal_formulas.proofs.Values.{sorted}
use Rattle.floyd_goal_forms.specs.Terms.{AllHeadsFit, FormulaFits, FormulasFit, HeadsFit}
use Rattle.floyd_simplifying.specs.Assertions.{changed_or, formula_or}
use Rattle.floyd_simplifying.specs.Simplified.{formula_over, formula_simplified, formula_written, formulas_simplified, is_identity, over_both, simplified_in, true_or, truth}
use Rattle.floyd_simplifying.proofs.ListsKept.{on_ok_some}
use Rattle.floyd_simplifying.proofs.TermsKept.{both_are}
use Rattle.floyd_formed_simplifying.proofs.Terms.{terms_simple}

-- ---- what a formula is made of

abbrev made_of : PlainFormula → Result PlainFormula No
made_of f = Ok f

formula_by : (b c : Bool) (f g : PlainFormula) → cond b (cond c (made_of f) (Err too_large)) (Err ill_sorted) ≡ Ok g → (b ≡ true) × (f ≡ g)
formula_by true true f g e = (refl, cc)
formula_by true false f g e = absurd cc
formula_by false c f g e = absurd cc

written_is : (f g : PlainFormula) → formula_written f ≡ Ok g → (well_sorted f ≡ true) × (f ≡ g)
written_is f g e = formula_by (well_sorted f) (formula_fits f) f g e

same_or : (b c : Bool) (f g : PlainFormula) → (c ≡ false → f ≡ g) → unwrap_or (cond b (Some truth) (cond c (Some f) None)) g ≡ cond b truth f
same_or true c f g k = refl
same_or false true f g k = refl
same_or false false f g k = sym (k refl)

-- the parts of what is given in the formula's place; it is well sorted where that is
record Parts (head : FormulaHead) (terms : Plains) (kids : PlainFormulas) (x : Result (Option Plains) No) (y : Result (Option PlainFormulas) No) (r : Option PlainFormula) : Type 0 where
  pub terms' : Option Plains
  pub kids' : Option PlainFormulas
  pub terms_are : x ≡ Ok terms'
  pub kids_are : y ≡ Ok kids'
  pub is : unwrap_or r (Says head terms kids) ≡ cond (is_identity (Says head (unwrap_or terms' terms) (unwrap_or kids' kids))) truth (Says head (unwrap_or terms' terms) (unwrap_or kids' kids))
  pub sorted' : well_sorted (Says head terms kids) ≡ true → well_sorted (Says head (unwrap_or terms' terms) (unwrap_or kids' kids)) ≡ true

same_ok : (o r : Option PlainFormula) → ◌≡◌ {A = Result (Option PlainFormula) No} (Ok o) (Ok r) → o ≡ r
same_ok o r e = cc

over_is : (f g : PlainFormula) (r : Option PlainFormula) → formula_over f ≡ Ok r → (well_sorted f ≡ true) × (unwrap_or r g ≡ cond (is_identity f) truth f)
over_is f g r e =
    let p = on_ok_some (formula_written f) (λ made. Ok (true_or true made)) r e in
    let same = written_is f p.0 p.1 in (
      same.0,
      ap (λ q. unwrap_or q g) (sym (same_ok (true_or true p.0) r p.2)) ∙ ap (λ h. unwrap_or (true_or true h) g) (sym same.1) ∙ same_or (is_identity f) true f g (λ c. absurd cc),
    )

parts : (head : FormulaHead) (terms : Plains) (kids : PlainFormulas) (x : Result (Option Plains) No) (y : Result (Option PlainFormulas) No) (r : Option PlainFormula) → over_both head terms kids x y ≡ Ok r → Parts head terms kids x y r
parts head terms kids (Ok None) (Ok None) r e = record {
  terms' = None;
  kids' = None;
  terms_are = refl;
  kids_are = refl;
  is =
      ap (λ q. unwrap_or q (Says head terms kids)) (sym (same_ok (true_or false (Says head terms kids)) r e))
      ∙ same_or (is_identity (Says head terms kids)) false (Says head terms kids) (Says head terms kids) (λ c. refl);
  sorted' = λ w. w;
}
parts head terms kids (Ok None) (Ok (Some fs)) r e =
    let p = over_is (Says head terms fs) (Says head terms kids) r e in
    record { terms' = None; kids' = Some fs; terms_are = refl; kids_are = refl; is = p.1; sorted' = λ w. p.0 }
parts head terms kids (Ok (Some ts)) (Ok fs) r e =
    let p = over_is (Says head ts (unwrap_or fs kids)) (Says head terms kids) r e in
    record { terms' = Some ts; kids' = fs; terms_are = refl; kids_are = refl; is = p.1; sorted' = λ w. p.0 }
parts head terms kids (Ok None) (Err refusal) r e = absurd cc
parts head terms kids (Ok (Some ts)) (Err refusal) r e = absurd cc
parts head terms kids (Err refusal) y r e = absurd cc

-- ---- what is well formed

module _ (defs : Defs) (specs : SpecTable) where
  record Good (scope : Scope) (f : PlainFormula) : Type 0 where
    pub allowed : IsAllowed (value_defs defs) scope f
    pub known : HeadsFit defs specs f

  record AllGood (scope : Scope) (fs : PlainFormulas) : Type 0 where
    pub allowed : AreAllowed (value_defs defs) scope fs
    pub known : AllHeadsFit defs specs fs

  truth_or : (b : Bool) (scope : Scope) (f : PlainFormula) → Good scope f → Good scope (cond b truth f)
  truth_or true scope f k = record { allowed = (tt, tt); known = (tt, tt, tt) }
  truth_or false scope f k = k

  mutual
    formula_good : (scope : Scope) (f : PlainFormula) → well_sorted f ≡ true → Good scope f → (r : Option PlainFormula) → formula_simplified f ≡ Ok r → Good scope (unwrap_or r f)
    formula_good scope (Says head terms kids) w a r e =
        let t = both_true (takes_all head (sorts_of terms) (length (listed_formulas kids))) (all_well_sorted kids) w in
        let p = parts head terms kids (simplified_in terms) (formulas_simplified kids) r e in
        let ss = sorted head terms kids w in
        let us = terms_simple defs scope terms ss.sorts (a.allowed.0, a.known.1) ss.are p.terms' p.terms_are in
        let fs = formulas_good (scope_below head scope) kids t.1 (record { allowed = a.allowed.1; known = a.known.2 }) p.kids' p.kids_are in
        let made = Says head (unwrap_or p.terms' terms) (unwrap_or p.kids' kids) in
        let over : Good scope made = record { allowed = (us.fine.0, fs.allowed); known = (a.known.0, us.fine.1, fs.known) } in
        subst (Good scope) (sym p.is) (truth_or (is_identity made) scope made over)

    formulas_good : (scope : Scope) (fs : PlainFormulas) → all_well_sorted fs ≡ true → AllGood scope fs → (q : Option PlainFormulas) → formulas_simplified fs ≡ Ok q → AllGood scope (unwrap_or q fs)
    formulas_good scope NoFormula w a q e =
        let nothing : None ≡ q = cc in
        subst (λ o. AllGood scope (unwrap_or o NoFormula)) nothing a
    formulas_good scope (MoreFormulas f fs) w a q e =
        let b = both_are MoreFormulas f fs (formula_simplified f) (formulas_simplified fs) q e in
        let t = both_true (well_sorted f) (all_well_sorted fs) w in
        let k = formula_good scope f t.0 (record { allowed = a.allowed.0; known = a.known.0 }) b.first b.first_is in
        let l = formulas_good scope fs t.1 (record { allowed = a.allowed.1; known = a.known.1 }) b.rest b.rest_is in
        let made : AllGood scope (MoreFormulas (unwrap_or b.first f) (unwrap_or b.rest fs)) = record { allowed = (k.allowed, l.allowed); known = (k.known, l.known) } in
        subst (AllGood scope) b.is made

  truth_sorted : (b : Bool) (f : PlainFormula) → well_sorted f ≡ true → well_sorted (cond b truth f) ≡ true
  truth_sorted true f w = refl
  truth_sorted false f w = w

  formula_sorted : (f : PlainFormula) → well_sorted f ≡ true → (r : Option PlainFormula) → formula_simplified f ≡ Ok r → well_sorted (unwrap_or r f) ≡ true
  formula_sorted (Says head terms kids) w r e =
      let p = parts head terms kids (simplified_in terms) (formulas_simplified kids) r e in
      let made = Says head (unwrap_or p.terms' terms) (unwrap_or p.kids' kids) in
      subst (λ g. well_sorted g ≡ true) (sym p.is) (truth_sorted (is_identity made) made (p.sorted' w))

  pub formula_formed : (scope : Scope) (f made : PlainFormula) → FormulaFits defs specs scope f → formula_simplified f ≡ Ok (Some made) → FormulaFits defs specs scope made
  formula_formed scope f made h e =
      let k = formula_good scope f h.fits.sorted (record { allowed = h.fits.allowed; known = h.known }) (Some made) e in
      record { fits = record { sorted = formula_sorted f h.fits.sorted (Some made) e; allowed = k.allowed }; known = k.known }

  one_formed : (scope : Scope) (f : PlainFormula) → FormulaFits defs specs scope f → FormulaFits defs specs scope (formula_or f)
  one_formed scope f h = by (formula_simplified f) refl
    where
      by : (x : Result (Option PlainFormula) No) → formula_simplified f ≡ x → FormulaFits defs specs scope (changed_or f x)
      by (Ok None) e = h
      by (Ok (Some made)) e = formula_formed scope f made h e
      by (Err refusal) e = h

  pub formulas_formed : (scope : Scope) (fs : List PlainFormula) → FormulasFit defs specs scope fs → FormulasFit defs specs scope (map formula_or fs)
  formulas_formed scope [] h = tt
  formulas_formed scope (f ∷ fs) h = (one_formed scope f h.0, formulas_formed scope fs h.1)
