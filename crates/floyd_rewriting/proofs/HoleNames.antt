-- The name of the holes is nowhere else.
use Rattle.std.proofs.Common.{◌≡◌, ℕ, zero, suc, ◌+◌, ◌<◌, ◌^◌, Bool, true, false, ◌||◌, cond, List, [], Option, Some, None, refl, sym, ap, ◌∙◌, arith}
use Rattle.floyd_tree_sorts.specs.declared.sorts.Sort.{Sort}
use Rattle.floyd_tree_sorts.specs.Heads.{binds}
use Rattle.floyd_tree.specs.Formulas.{PlainFormula, PlainFormulas, Says, NoFormula, MoreFormulas, form_of, formulas, formulas_mention, formulas_of, listed_formulas}
use Rattle.floyd_tree.specs.Plain.{Plain, height, mentions, mentions_in, plains, size}
use Rattle.floyd_tree.specs.WellSorted.{sort_of}
use Rattle.floyd_truth.specs.Capture.{bound_in, bound_in_some, marked, most_marks}
use Rattle.floyd_truth.proofs.Fresh.{neither}
use Rattle.floyd_assert_trees.specs.declared.binder.Binder.{Binder}
use Rattle.floyd_assert_changes.specs.Changed.{has_name}
use Rattle.floyd_rewriting.specs.Holes.{first_free, hole_for, hole_name, is_there}
use Rattle.floyd_rewriting.specs.HolesClauses.{IsHole}

pub found_free : (taken : List ℕ → Bool) (n k : ℕ) → 0 < n → taken (marked [] k) ≡ false → first_free taken n k ≡ Some (marked [] k)
found_free taken zero k l e = absurd (omega arith)
found_free taken (suc n) k l e = ap (λ b. cond b (first_free taken n (k + 1)) (Some (marked [] k))) e

pub next_free : (taken : List ℕ → Bool) (n m k : ℕ) → n ≡ m + 1 → taken (marked [] k) ≡ true → first_free taken n k ≡ first_free taken m (k + 1)
next_free taken zero m k l e = absurd (omega arith)
next_free taken (suc n) m k l e =
    let same : n ≡ m = omega (arith, l) in
    ap (λ b. cond b (first_free taken n (k + 1)) (Some (marked [] k))) e ∙ ap (λ i. first_free taken i (k + 1)) same

pub no_more : (taken : List ℕ → Bool) (n k : ℕ) → n ≡ 0 → first_free taken n k ≡ None
no_more taken zero k e = refl
no_more taken (suc n) k e = absurd (omega arith)

pub most_is : most_marks ≡ 2 ^ 63
unfolding most_marks
most_is = refl

free_by : (taken : List ℕ → Bool) (rest : Option (List ℕ)) (here name : List ℕ) → (rest ≡ Some name → taken name ≡ false) → (b : Bool) → taken here ≡ b → cond b rest (Some here) ≡ Some name → taken name ≡ false
free_by taken rest here name h true i e = h e
free_by taken rest here name h false i e =
    let same : here ≡ name = cc in
    ap taken (sym same) ∙ i

pub is_free : (taken : List ℕ → Bool) (n k : ℕ) (name : List ℕ) → first_free taken n k ≡ Some name → taken name ≡ false
is_free taken zero k name e = absurd cc
is_free taken (suc n) k name e = free_by taken (first_free taken n (k + 1)) (marked [] k) name (is_free taken n (k + 1) name) (taken (marked [] k)) refl e

-- a name that is nowhere
pub record IsNowhere (from : Plain) (binders : List Binder) (props : List PlainFormula) (terms : List Plain) (name : List ℕ) : Type 0 where
  pub in_from : mentions name from ≡ false
  pub in_binders : has_name name binders ≡ false
  pub free : formulas_mention name (formulas props) ≡ false
  pub bound : bound_in_some name (formulas props) ≡ false
  pub in_terms : mentions_in name (plains terms) ≡ false

pub is_nowhere : (from : Plain) (binders : List Binder) (props : List PlainFormula) (terms : List Plain) (name : List ℕ) → hole_name from binders props terms ≡ Some name → IsNowhere from binders props terms name
is_nowhere from binders props terms name e =
    let all = is_free (is_there from binders props terms) most_marks 1 name e in
    let a = neither (mentions name from) (has_name name binders || (formulas_mention name (formulas props) || (bound_in_some name (formulas props) || mentions_in name (plains terms)))) all in
    let b = neither (has_name name binders) (formulas_mention name (formulas props) || (bound_in_some name (formulas props) || mentions_in name (plains terms))) a.1 in
    let c = neither (formulas_mention name (formulas props)) (bound_in_some name (formulas props) || mentions_in name (plains terms)) b.1 in
    let d = neither (bound_in_some name (formulas props)) (mentions_in name (plains terms)) c.1 in
    record { in_from = a.0; in_binders = b.0; free = c.0; bound = d.0; in_terms = d.1 }

-- a name is bound by the head, or below it
formulas_again : (fs : PlainFormulas) → formulas (listed_formulas fs) ≡ fs
formulas_again NoFormula = refl
formulas_again (MoreFormulas f fs) = ap (MoreFormulas f) (formulas_again fs)

pub bound_parts : (x : List ℕ) (f : PlainFormula) → (binds x (form_of f) || bound_in_some x (formulas (formulas_of f))) ≡ bound_in x f
bound_parts x (Says head terms kids) = ap (λ ks. binds x head || bound_in_some x ks) (formulas_again kids)

pub hole_is : (name : List ℕ) (from : Plain) (s : Sort) → sort_of from ≡ Some s → IsHole from (hole_for name (sort_of from))
hole_is name from s e = record {
  sort = ap (λ o. sort_of (hole_for name o)) e ∙ sym e;
  size = by (sort_of from);
  height = low (sort_of from);
}
  where
    by : (o : Option Sort) → size (hole_for name o) ≡ 1
    by (Some r) = refl
    by None = refl

    low : (o : Option Sort) → height (hole_for name o) ≡ 1
    low (Some r) = refl
    low None = refl
