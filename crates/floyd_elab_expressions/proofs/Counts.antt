-- Names that are counted.
use Rattle.std.proofs.Common.{◌≡◌, ℕ, ◌+◌, Bool, true, false, true≢false, List, [], ◌∷◌, ◌++◌, Some, cond, count_by, bytes_eq, refl, ap, sym, ◌∙◌, subst, arith}
use Rattle.std.specs.Map.{lookup}
use Rattle.std.proofs.lemmas.Slice.Eq.{bytes_eq-Decides}
use Rattle.std.proofs.lemmas.List.Sums.{sum_by-append}
use Rattle.floyd_elab_expressions.specs.CountClauses.{number_in, AreCounted, PutsCount}

at_name : (names : List (List ℕ)) (x q : List ℕ) (b : Bool) → bytes_eq q x ≡ b → count_by (bytes_eq q) (names ++ x ∷ []) ≡ count_by (bytes_eq q) names + cond b 1 0
at_name names x q true e = sum_by-append (λ y. cond (bytes_eq q y) 1 0) names (x ∷ []) ∙ ap (λ b. count_by (bytes_eq q) names + (0 + cond b 1 0)) e
at_name names x q false e = sum_by-append (λ y. cond (bytes_eq q y) 1 0) names (x ∷ []) ∙ ap (λ b. count_by (bytes_eq q) names + (0 + cond b 1 0)) e

self_equal : (x : List ℕ) → bytes_eq x x ≡ true
self_equal x = (bytes_eq-Decides x x).1 refl

pub none_counted : AreCounted [] []
none_counted q = refl

pub one_counted : (before now : List (List ℕ × ℕ)) (names : List (List ℕ)) (x : List ℕ) (n : ℕ) → AreCounted before names → PutsCount before x n now → n ≡ count_by (bytes_eq x) names + 1 → AreCounted now (names ++ x ∷ [])
one_counted before now names x n held puts is q = by (bytes_eq x q) refl
  where
    here : number_in (lookup (bytes_eq x) now) ≡ count_by (bytes_eq x) (names ++ x ∷ [])
    here = ap number_in (puts x ∙ ap (λ b. cond b (Some n) (lookup (bytes_eq x) before)) (self_equal x)) ∙ is ∙ sym (at_name names x x true (self_equal x))

    other : bytes_eq x q ≡ false → (b : Bool) → bytes_eq q x ≡ b → bytes_eq q x ≡ false
    other differ true e = let same : q ≡ x = (bytes_eq-Decides q x).0 e in absurd (true≢false (sym (self_equal x) ∙ ap (bytes_eq x) (sym same) ∙ differ))
    other differ false e = e

    by : (b : Bool) → bytes_eq x q ≡ b → number_in (lookup (bytes_eq q) now) ≡ count_by (bytes_eq q) (names ++ x ∷ [])
    by true e = let same : x ≡ q = (bytes_eq-Decides x q).0 e in subst (λ z. number_in (lookup (bytes_eq z) now) ≡ count_by (bytes_eq z) (names ++ x ∷ [])) same here
    by false e =
        ap number_in (puts q ∙ ap (λ b. cond b (Some n) (lookup (bytes_eq q) before)) e)
        ∙ held q
        ∙ sym (at_name names x q false (other e (bytes_eq q x) refl) ∙ let zero_more : count_by (bytes_eq q) names + 0 ≡ count_by (bytes_eq q) names = omega arith in zero_more)
