-- Formulas that are kept, and conjunctions.
use Rattle.std.proofs.Common.{◌≡◌, ℕ, zero, suc, Bool, true, false, cond, ◌&&◌, List, [], ◌∷◌, ◌++◌, drop, Some, Result, Ok, Err, refl, sym, ap, subst, ◌∙◌, inl, inr, arith, true≢false, ⊎_elim}
use Rattle.std.specs.Prelude.{nat_le}
use Rattle.std.proofs.lemmas.Bool.{le-leb, leb-true, false_from_ne_true}
use Rattle.std.proofs.lemmas.List.{append-nil, append_assoc}
use Rattle.floyd_text.specs.declared.refusal.No.{No}
use Rattle.floyd_text.specs.declared.refusal.RuleStop.{RuleStop}
use Rattle.floyd_text.specs.declared.refusal.RuleStop.TheVariants as r
use Rattle.floyd_text.specs.Gives.{RuleStops}
use Rattle.floyd_tree.specs.Formulas.{PlainFormula, formula_size, formula_height}
use Rattle.floyd_tree.specs.MadeFormulas.{formula_fits}
use Rattle.floyd_tree_sorts.proofs.SortLemmas.{both_true}
use Rattle.floyd_goal_formulas.specs.Drops.{Drops}
use Rattle.floyd_goal_formulas.specs.KeepingClauses.{IsKept, limited, optional, conjoined}
use Rattle.floyd_goal_formulas.specs.Keeping.{Kept, and, before, conjunction, too_large}

both_are : (a b : Bool) → a ≡ true → b ≡ true → (a && b) ≡ true
both_are true b p q = q
both_are false b p q = absurd cc

-- the second of two formulas fits where their conjunction does
second_fits : (f g : PlainFormula) → formula_fits (and f g) ≡ true → formula_fits g ≡ true
second_fits f g h =
    let p = both_true (nat_le (formula_size (and f g)) 65536) (nat_le (formula_height (and f g)) 256) h in
    let s = leb-true (formula_size (and f g)) 65536 p.0 in
    let t = leb-true (formula_height (and f g)) 256 p.1 in
    both_are (nat_le (formula_size g) 65536) (nat_le (formula_height g) 256) (le-leb (formula_size g) 65536 (omega (arith, s))) (le-leb (formula_height g) 256 (omega (arith, t)))

module _ (hs all rest so_far : List PlainFormula) (f : PlainFormula) (so : (more : List PlainFormula) → Kept hs (f ∷ rest) more → Kept hs all (so_far ++ more)) where
  -- a formula that needs no proof is left out
  skipped : Drops hs f → (more : List PlainFormula) → Kept hs rest more → Kept hs all (so_far ++ more)
  skipped d more k = so more (inl (d, k))

  -- another is kept
  with_one : ¬ Drops hs f → (more : List PlainFormula) → Kept hs rest more → Kept hs all ((so_far ++ f ∷ []) ++ more)
  with_one n more k = subst (Kept hs all) (sym (append_assoc so_far (f ∷ []) more)) (so (f ∷ more) (inr (n, (more, k, refl))))

abbrev ok_of : {X : Type 0} → X → Result X No
ok_of x = Ok x

abbrev err_of : {X : Type 0} → No → Result X No
err_of why = Err why

refused_by : (f : PlainFormula) (why : No) (b : Bool) → formula_fits f ≡ b → cond b (ok_of f) (err_of too_large) ≡ err_of why → (why ≡ too_large) × (formula_fits f ≡ false)
refused_by f why true h e = absurd cc
refused_by f why false h e = (cc, h)

limited_err : (f : PlainFormula) (why : No) → limited f ≡ Err why → (why ≡ too_large) × (formula_fits f ≡ false)
limited_err f why e = refused_by f why (formula_fits f) refl e

-- formulas with others before them are too large where they are
behind_too_large : (i : ℕ) (fs : List PlainFormula) (t : PlainFormula) → conjunction (drop i fs) ≡ Some t → formula_fits t ≡ false → (u : PlainFormula) × (conjunction fs ≡ Some u) × (formula_fits u ≡ false)
behind_too_large zero fs t e h = (t, e, h)
behind_too_large (suc i) [] t e h = absurd cc
behind_too_large (suc i) (g ∷ gs) t e h =
    let p = behind_too_large i gs t e h in
    (and g p.0, ap (λ o. Some (before g o)) p.1, false_from_ne_true (formula_fits (and g p.0)) (λ y. true≢false (sym (second_fits g p.0 y) ∙ p.2)))

conjoined_err : (i : ℕ) (fs : List PlainFormula) (t : PlainFormula) (why : No) → conjunction (drop i fs) ≡ Some t → limited t ≡ Err why → conjoined fs ≡ Err why
conjoined_err i fs t why e l =
    let p = limited_err t why l in
    let q = behind_too_large i fs t e p.1 in
    ap optional q.1 ∙ ap (λ b. cond b (ok_of (Some q.0)) (err_of too_large)) q.2 ∙ ap err_of (sym p.0)

-- what stopped a conjunction from behind stops the whole
pub stops_whole : (i : ℕ) (fs : List PlainFormula) (t : PlainFormula) (stop : RuleStop) → conjunction (drop i fs) ≡ Some t → RuleStops stop (limited t) → RuleStops stop (conjoined fs)
stops_whole i fs t (r.No why) e l = conjoined_err i fs t why e l
stops_whole i fs t r.Memory e l = tt

-- one more formula was looked at
pub one_more : (hs all rest so_far now : List PlainFormula) (f : PlainFormula) → ((more : List PlainFormula) → Kept hs (f ∷ rest) more → Kept hs all (so_far ++ more)) → IsKept hs f so_far now → (more : List PlainFormula) → Kept hs rest more → Kept hs all (now ++ more)
one_more hs all rest so_far now f so is more k =
    ⊎_elim (λ p. subst (λ xs. Kept hs all (xs ++ more)) (sym p.1) (skipped hs all rest so_far f so p.0 more k))
    (λ p. subst (λ xs. Kept hs all (xs ++ more)) (sym p.1) (with_one hs all rest so_far f so p.0 more k)) is

-- all formulas were looked at
pub none_left : (hs all now : List PlainFormula) → ((more : List PlainFormula) → Kept hs [] more → Kept hs all (now ++ more)) → Kept hs all now
none_left hs all now so = subst (Kept hs all) (append-nil now) (so [] refl)
