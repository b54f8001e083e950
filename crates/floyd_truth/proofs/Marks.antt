-- Names with a mark and a number: different numbers make different names, and one of enough of them is not taken.
use Rattle.std.proofs.Common.{◌≡◌, ℕ, zero, suc, ◌+◌, ◌%◌, ◌<◌, ◌≤◌, ◌^◌, Bool, true, false, ◌||◌, List, [], ◌∷◌, ◌++◌, length, refl, sym, ◌∙◌, ap, subst, arith, true≢false, append_assoc}
use Rattle.std.specs.Prelude.{if◌then◌else◌, bytes_eq}
use Rattle.std.specs.Fmt.{decimal}
use Rattle.std.specs.List.{list_any}
use Rattle.std.proofs.lemmas.Fmt.{decimal_injective, decimal_by_steps}
use Rattle.std.proofs.lemmas.Slice.Eq.{bytes_eq-Decides}
use Rattle.floyd_truth.specs.Capture.{marked, unmarked_from}

abbrev NoMark : List ℕ → Type 0
NoMark [] = Unit {0}
NoMark (b ∷ bs) = ¬ (b ≡ 39) × NoMark bs

one_more : (ds : List ℕ) (d : ℕ) → NoMark ds → ¬ (d ≡ 39) → NoMark (ds ++ d ∷ [])
one_more [] d h k = (k, tt)
one_more (c ∷ cs) d h k = (h.0, one_more cs d h.1 k)

no_mark : (n : ℕ) → n < 2 ^ 64 → NoMark (decimal n)
no_mark n l = decimal_by_steps (λ n ds. NoMark ds) (λ n _. (λ e. omega (arith, e), tt)) (λ n ds _ h. one_more ds (48 + n % 10) h (λ e. omega (arith, e))) n l

mark_within : (x ds : List ℕ) → NoMark (x ++ 39 ∷ ds) → ⊥
mark_within [] ds h = h.0 refl
mark_within (b ∷ x) ds h = mark_within x ds h.1

tail : List ℕ → List ℕ
tail [] = []
tail (b ∷ bs) = bs

head : List ℕ → ℕ
head [] = 0
head (b ∷ bs) = b

same_stem : (v x ds es : List ℕ) → NoMark ds → NoMark es → v ++ 39 ∷ ds ≡ x ++ 39 ∷ es → v ≡ x
unfolding tail head
same_stem [] [] ds es m n e = refl
same_stem [] (c ∷ x) ds es m n e = absurd (mark_within x es (subst NoMark (ap tail e) m))
same_stem (b ∷ v) [] ds es m n e = absurd (mark_within v ds (subst NoMark (sym (ap tail e)) n))
same_stem (b ∷ v) (c ∷ x) ds es m n e =
    let first : b ≡ c = ap head e in
    let rest : v ≡ x = same_stem v x ds es m n (ap tail e) in
    ap (λ k. k ∷ v) first ∙ ap (λ w. c ∷ w) rest

same_end : (x a b : List ℕ) → x ++ a ≡ x ++ b → a ≡ b
unfolding tail
same_end [] a b e = e
same_end (c ∷ x) a b e = same_end x a b (ap tail e)

marked_is : (x : List ℕ) (k : ℕ) → marked x k ≡ x ++ 39 ∷ decimal k
marked_is x k = append_assoc x (39 ∷ []) (decimal k)

-- a marked name tells its stem and its number
pub marked_stem : (v x : List ℕ) (j k : ℕ) → j < 2 ^ 64 → k < 2 ^ 64 → marked v j ≡ marked x k → v ≡ x
marked_stem v x j k l m e = same_stem v x (decimal j) (decimal k) (no_mark j l) (no_mark k m) (sym (marked_is v j) ∙ e ∙ marked_is x k)

pub marked_number : (x : List ℕ) (j k : ℕ) → j < 2 ^ 64 → k < 2 ^ 64 → marked x j ≡ marked x k → j ≡ k
unfolding tail
marked_number x j k l m e = decimal_injective j k l m (ap tail (same_end x (39 ∷ decimal j) (39 ∷ decimal k) (sym (marked_is x j) ∙ e ∙ marked_is x k)))

abbrev pub Has : List ℕ → List (List ℕ) → Type 0
Has n names = list_any (bytes_eq n) names ≡ true

-- the names without the first one of that kind
abbrev drop_name : List ℕ → List (List ℕ) → List (List ℕ)
drop_name n [] = []
drop_name n (m ∷ names) = if bytes_eq n m then names else m ∷ drop_name n names

fewer_by : (n m : List ℕ) (names : List (List ℕ)) (b : Bool) → (b || list_any (bytes_eq n) names) ≡ true → (Has n names → length (drop_name n names) + 1 ≡ length names) → length (if b then names else m ∷ drop_name n names) + 1 ≡ length (m ∷ names)
fewer_by n m names true h k = omega arith
fewer_by n m names false h k = omega (arith, k h)

fewer : (n : List ℕ) (names : List (List ℕ)) → Has n names → length (drop_name n names) + 1 ≡ length names
fewer n [] h = absurd cc
fewer n (m ∷ names) h = fewer_by n m names (bytes_eq n m) h (fewer n names)

kept_by : (n m k : List ℕ) (names : List (List ℕ)) → (m ≡ n → ⊥) → (Has m names → Has m (drop_name n names)) → (b c : Bool) → bytes_eq n k ≡ b → bytes_eq m k ≡ c → (c || list_any (bytes_eq m) names) ≡ true → list_any (bytes_eq m) (if b then names else k ∷ drop_name n names) ≡ true
kept_by n m k names d i true true p q h = absurd (d ((bytes_eq-Decides m k).0 q ∙ sym ((bytes_eq-Decides n k).0 p)))
kept_by n m k names d i true false p q h = h
kept_by n m k names d i false true p q h = ap (λ a. a || list_any (bytes_eq m) (drop_name n names)) q
kept_by n m k names d i false false p q h = ap (λ a. a || list_any (bytes_eq m) (drop_name n names)) q ∙ i h

kept : (n m : List ℕ) (names : List (List ℕ)) → (m ≡ n → ⊥) → Has m names → Has m (drop_name n names)
kept n m [] d h = h
kept n m (k ∷ names) d h = kept_by n m k names d (kept n m names d) (bytes_eq n k) (bytes_eq m k) refl refl h

-- a name that was found
pub record Found (taken : List ℕ → Bool) (x y : List ℕ) : Type 0 where
  pub number : ℕ
  pub small : number < 2 ^ 64
  pub is : y ≡ marked x number
  pub free : taken y ≡ false

abbrev Tests : (List ℕ → Bool) → List ℕ → ℕ → List (List ℕ) → Type 0
Tests taken x k names = (j : ℕ) → k ≤ j → j < 2 ^ 64 → taken (marked x j) ≡ true → Has (marked x j) names

tests_after : (taken : List ℕ → Bool) (x : List ℕ) (k : ℕ) (names : List (List ℕ)) → k < 2 ^ 64 → Tests taken x k names → Tests taken x (k + 1) (drop_name (marked x k) names)
tests_after taken x k names l h j low high t =
    kept (marked x k) (marked x j) names (λ s. omega (arith, marked_number x j k high l s, low)) (h j (omega (arith, low)) high t)

finds_by : (taken : List ℕ → Bool) (x : List ℕ) (tries k : ℕ) → k < 2 ^ 64 → (taken (marked x k) ≡ true → Found taken x (unmarked_from taken x tries (k + 1))) → (b : Bool) → taken (marked x k) ≡ b → Found taken x (if b then unmarked_from taken x tries (k + 1) else marked x k)
finds_by taken x tries k l h true e = h e
finds_by taken x tries k l h false e = record { number = k; small = l; is = refl; free = e }

pub finds : (taken : List ℕ → Bool) (x : List ℕ) (tries k : ℕ) (names : List (List ℕ)) → length names < tries → k + tries < 2 ^ 64 → Tests taken x k names → Found taken x (unmarked_from taken x tries k)
finds taken x zero k names l m h = absurd (omega arith)
finds taken x (suc tries) k names l m h =
    finds_by taken x tries k (omega (arith, m))
    (λ e. finds taken x tries (k + 1) (drop_name (marked x k) names) (omega (arith, l, fewer (marked x k) names (h k (omega arith) (omega (arith, m)) e))) (omega (arith, m)) (tests_after taken x k names (omega (arith, m)) h))
    (taken (marked x k)) refl
