-- Unknowns that are looked up, added and scaled.
use Rattle.std.proofs.Common.{◌≡◌, ℕ, zero, suc, ◌+◌, ◌<◌, Bool, true, false, ◌&&◌, cond, List, [], ◌∷◌, ◌++◌, length, map, drop, drop-cons, add-one, get_or, set, Some, None, ℤ, ◌+ℤ◌, refl, sym, ap, subst, ◌∙◌, ◌⊎◌, inl, inr, arith}
use Rattle.std.specs.Prelude.{option_map}
use Rattle.std.proofs.lemmas.Bool.{cases_Bool}
use Rattle.floyd_tree_sorts.proofs.SortLemmas.{both_true}
use Rattle.floyd_tree.specs.Plain.{Plain}
use Rattle.floyd_arith.specs.declared.unknowns.Unknown.{Unknown}
use Rattle.floyd_arith.specs.Linear.{times, more, with_unknown, with_unknowns, is_small, all_small}
use Rattle.floyd_arith.specs.LinearClauses.{place_from, small_unknown, small_unknowns, Lacks, AreApart}
use Rattle.floyd_arith.specs.Same.{same_term}
use Rattle.floyd_arith.proofs.SameLemmas.{same_term_true, differ}

-- the unknown at that place is the first that is the term
abbrev pub IsAt : List Unknown → Plain → ℕ → Type 0
IsAt [] t j = ⊥
IsAt (u ∷ us) t zero = same_term u.term t ≡ true
IsAt (u ∷ us) t (suc j) = (same_term u.term t ≡ false) × IsAt us t j

pub found : (us : List Unknown) (t : Plain) (n i : ℕ) → place_from n us t ≡ Some i → (j : ℕ) × (i ≡ n + j) × IsAt us t j
found [] t n i e = absurd cc
found (u ∷ us) t n i e = elim (cases_Bool (same_term u.term t)) [
  | inl s ↦ let here : n ≡ i = let f = rw s at e in cc in (zero, omega arith, s)
  | inr s ↦ let p = found us t (n + 1) i (rw s at e) in (suc p.0, omega (arith, p.1), (s, p.2))
]

pub below : (us : List Unknown) (t : Plain) (j : ℕ) → IsAt us t j → j < length us
below [] t j a = absurd a
below (u ∷ us) t zero a = omega arith
below (u ∷ us) t (suc j) a = omega (arith, below us t j a.1)

pub small_at : (us : List Unknown) (j : ℕ) (d : Unknown) → j < length us → all_small us ≡ true → is_small (get_or us j d).coefficient ≡ true
small_at [] j d h e = absurd (omega arith)
small_at (u ∷ us) zero d h e = (both_true (is_small u.coefficient) (all_small us) e).0
small_at (u ∷ us) (suc j) d h e = small_at us j d (omega arith) (both_true (is_small u.coefficient) (all_small us) e).1

pub place_below : (us : List Unknown) (t : Plain) (i : ℕ) → place_from 0 us t ≡ Some i → i < length us
place_below us t i e = let p = found us t 0 i e in omega (arith, below us t p.0 p.2, p.1)

pub set_there : (us : List Unknown) (u d : Unknown) (j : ℕ) → IsAt us u.term j → with_unknown us u ≡ set us j (more u.coefficient (get_or us j d))
set_there [] u d j a = absurd a
set_there (v ∷ us) u d zero a = rw a
set_there (v ∷ us) u d (suc j) a = rw a.0 (ap (λ vs. v ∷ vs) (set_there us u d j a.1))

pub set_at_place : (us : List Unknown) (u d : Unknown) (i : ℕ) → place_from 0 us u.term ≡ Some i → with_unknown us u ≡ set us i (more u.coefficient (get_or us i d))
set_at_place us u d i e =
    let p = found us u.term 0 i e in
    let same : i ≡ p.0 = omega (arith, p.1) in
    rw same (set_there us u d p.0 p.2)

pub small_set : (us : List Unknown) (j : ℕ) (x : Unknown) → j < length us → all_small us ≡ true → all_small (set us j x) ≡ is_small x.coefficient
small_set [] j x h e = absurd (omega arith)
small_set (u ∷ us) zero x h e =
    let both = both_true (is_small u.coefficient) (all_small us) e in
    rw both.1 (and_true (is_small x.coefficient))
  where
    and_true : (b : Bool) → (b && true) ≡ b
    and_true true = refl
    and_true false = refl
small_set (u ∷ us) (suc j) x h e =
    let both = both_true (is_small u.coefficient) (all_small us) e in
    rw both.0 (small_set us j x (omega arith) both.1)

pub push_there : (us : List Unknown) (u : Unknown) (n : ℕ) → place_from n us u.term ≡ None → with_unknown us u ≡ us ++ u ∷ []
push_there [] u n e = refl
push_there (v ∷ us) u n e = elim (cases_Bool (same_term v.term u.term)) [
  | inl s ↦ let f = rw s at e in absurd cc
  | inr s ↦ rw s (ap (λ vs. v ∷ vs) (push_there us u (n + 1) (rw s at e)))
]

pub small_push : (us : List Unknown) (u : Unknown) → all_small us ≡ true → all_small (us ++ u ∷ []) ≡ is_small u.coefficient
small_push [] u e = and_true (is_small u.coefficient)
  where
    and_true : (b : Bool) → (b && true) ≡ b
    and_true true = refl
    and_true false = refl
small_push (v ∷ us) u e =
    let both = both_true (is_small v.coefficient) (all_small us) e in
    rw both.0 (small_push us u both.1)

-- an unknown that is this term has a coefficient that reaches the bound
abbrev HasLarge : Plain → List Unknown → Type 0
HasLarge t [] = ⊥
HasLarge t (u ∷ us) = ((u.term ≡ t) × (is_small u.coefficient ≡ false)) ⊎ HasLarge t us

and_false : (a b : Bool) → (a && b) ≡ false → a ≡ true → b ≡ false
and_false true b e h = e
and_false false b e h = absurd cc

large_after : (us : List Unknown) (u : Unknown) → all_small us ≡ true → all_small (with_unknown us u) ≡ false → HasLarge u.term (with_unknown us u)
large_after [] u e f = elim (cases_Bool (is_small u.coefficient)) [
  | inl s ↦ let g = rw s at f in absurd cc
  | inr s ↦ inl (refl, s)
]
large_after (v ∷ us) u e f =
    let both = both_true (is_small v.coefficient) (all_small us) e in
    elim (cases_Bool (same_term v.term u.term)) [
      | inl s ↦ rw s (
          let g : (is_small (v.coefficient +ℤ u.coefficient) && all_small us) ≡ false = rw s at f in
          elim (cases_Bool (is_small (v.coefficient +ℤ u.coefficient))) [
            | inl t ↦ let wrong = and_false _ _ g t in absurd cc
            | inr t ↦ inl (same_term_true v.term u.term s, t)
          ])
      | inr s ↦ rw s (inr (large_after us u both.1 (and_false (is_small v.coefficient) _ (rw s at f) both.0)))
    ]

large_stays : (t : Plain) (us : List Unknown) (w : Unknown) → HasLarge t us → ¬ (w.term ≡ t) → HasLarge t (with_unknown us w)
large_stays t [] w l n = absurd l
large_stays t (v ∷ us) w (inl here) n = rw (differ v.term w.term (λ e. n (sym e ∙ here.0))) (inl here)
large_stays t (v ∷ us) w (inr there) n = elim (cases_Bool (same_term v.term w.term)) [
  | inl s ↦ rw s (inr there)
  | inr s ↦ rw s (inr (large_stays t us w there n))
]

not_small : (t : Plain) (us : List Unknown) → HasLarge t us → all_small us ≡ false
not_small t [] l = absurd l
not_small t (u ∷ us) (inl here) = rw here.1
not_small t (u ∷ us) (inr there) = rw (not_small t us there) (and_no (is_small u.coefficient))
  where
    and_no : (b : Bool) → (b && false) ≡ false
    and_no true = refl
    and_no false = refl

large_to_end : (t : Plain) (us more : List Unknown) (k : ℤ) → HasLarge t us → Lacks t more → HasLarge t (with_unknowns us (map (times k) more))
large_to_end t us [] k l n = l
large_to_end t us (w ∷ more) k l n = large_to_end t (with_unknown us (times k w)) more k (large_stays t us (times k w) l n.0) n.1

-- a coefficient that reaches the bound stays, where the unknowns that follow are others
pub spoilt : (us : List Unknown) (k : ℤ) (u : Unknown) (more : List Unknown) → all_small us ≡ true → all_small (with_unknown us (times k u)) ≡ false → Lacks u.term more → all_small (with_unknowns (with_unknown us (times k u)) (map (times k) more)) ≡ false
spoilt us k u more e f n = not_small u.term _ (large_to_end u.term (with_unknown us (times k u)) more k (large_after us (times k u) e f) n)

none_small : (us : List Unknown) → small_unknowns us ≡ None → all_small us ≡ false
none_small us e = by_test (all_small us) refl
  where
    by_test : (b : Bool) → all_small us ≡ b → all_small us ≡ false
    by_test false t = t
    by_test true t = let f : cond (all_small us) (Some us) None ≡ None = e in absurd (let g = rw t at f in cc)

pub push_is : (us : List Unknown) (u : Unknown) → all_small us ≡ true → place_from 0 us u.term ≡ None → small_unknowns (with_unknown us u) ≡ option_map (λ x. us ++ x ∷ []) (small_unknown u)
push_is us u e p = rw (push_there us u 0 p, small_push us u e) (elim (cases_Bool (is_small u.coefficient)) [ inl s ↦ rw s | inr s ↦ rw s ])

pub set_is : (us : List Unknown) (u d : Unknown) (i : ℕ) → all_small us ≡ true → place_from 0 us u.term ≡ Some i → i < length us → small_unknowns (with_unknown us u) ≡ option_map (λ x. set us i x) (small_unknown (more u.coefficient (get_or us i d)))
set_is us u d i e p h =
    let x = more u.coefficient (get_or us i d) in
    rw (set_at_place us u d i p, small_set us i x h e) (elim (cases_Bool (is_small x.coefficient)) [ inl s ↦ rw s | inr s ↦ rw s ])

pub spoils : (us all total : List Unknown) (k : ℤ) (u : Unknown) (rest : List Unknown) → all ≡ u ∷ rest → with_unknowns us (map (times k) all) ≡ total → all_small us ≡ true → AreApart all → small_unknowns (with_unknown us (times k u)) ≡ None → small_unknowns total ≡ None
spoils us all total k u rest d t e a n =
    let large = none_small (with_unknown us (times k u)) n in
    let apart : AreApart (u ∷ rest) = subst AreApart d a in
    let whole : with_unknowns (with_unknown us (times k u)) (map (times k) rest) ≡ total = ap (λ vs. with_unknowns us (map (times k) vs)) (sym d) ∙ t in
    let no : all_small total ≡ false = ap all_small (sym whole) ∙ spoilt us k u rest e large apart.0 in
    rw no

pub drop_is : (all : List Unknown) (i : ℕ) (u : Unknown) → i < length all → u ≡ get_or all i u → drop i all ≡ u ∷ drop (i + 1) all
drop_is all i u h e = rw add-one (drop-cons all i u h ∙ ap (λ v. v ∷ drop (suc i) all) (sym e))
