-- The names that elaboration draws.
use Rattle.std.proofs.Common.{◌≡◌, ℕ, ◌+◌, ◌%◌, ◌<◌, ◌≤◌, ◌^◌, Bool, true, false, ◌||◌, List, [], ◌∷◌, ◌++◌, refl, sym, ◌∙◌, ap, subst, arith, decimal, if◌then◌else◌, true≢false, bytes_eq}
use Rattle.std.specs.Prelude.{◌==◌, count_by}
use Rattle.std.proofs.lemmas.Fmt.{decimal_injective, decimal_by_steps}
use Rattle.floyd_elab_expressions.specs.Clight.{pulled_name, kth_name}
use Rattle.floyd_elab_statements.specs.Locals.{name_among}
use Rattle.floyd_elab_laws.specs.Laws.{has_mark}

tail : List ℕ → List ℕ
tail [] = []
tail (a ∷ as_) = as_

head : List ℕ → ℕ
head [] = 0
head (a ∷ as_) = a

pub pulled_differ : (j k : ℕ) → j < 2 ^ 64 → k < 2 ^ 64 → pulled_name j ≡ pulled_name k → j ≡ k
unfolding tail
pulled_differ j k l m e = decimal_injective j k l m (ap (λ x. tail (tail x)) e)

-- a number does not begin with a mark
abbrev BeginsWithDigit : List ℕ → Type 0
BeginsWithDigit [] = ⊥
BeginsWithDigit (d ∷ ds) = 48 ≤ d

longer : (ds : List ℕ) (d : ℕ) → BeginsWithDigit ds → BeginsWithDigit (ds ++ d ∷ [])
longer [] d h = absurd h
longer (c ∷ cs) d h = h

digit_first : (n : ℕ) → n < 2 ^ 64 → BeginsWithDigit (decimal n)
digit_first n l = decimal_by_steps (λ n ds. BeginsWithDigit ds) (λ n _. omega arith) (λ n ds _ h. longer ds (48 + n % 10) h) n l

marked : (x : List ℕ) (j : ℕ) → has_mark x ≡ false → x ≡ pulled_name j → ⊥
marked x j h e = true≢false (sym (ap has_mark e) ∙ h)

kth_apart : (x : List ℕ) (k j : ℕ) → has_mark x ≡ false → j < 2 ^ 64 → kth_name x k ≡ pulled_name j → ⊥
unfolding tail head
kth_apart [] k j h l e = let q : 39 ≡ 116 = ap head e in omega (arith, q)
kth_apart (a ∷ []) k j h l e =
    let q : 39 ∷ decimal k ≡ decimal j = ap (λ x. tail (tail x)) e in
    let f : 48 ≤ 39 = subst BeginsWithDigit (sym q) (digit_first j l) in
    omega (arith, f)
kth_apart (a ∷ b ∷ more) k j h l e =
    let q : b ≡ 39 = ap (λ x. head (tail x)) e in
    true≢false (sym (marked_second a b more q) ∙ h)
  where
    or_true : (s t : Bool) → s || (true || t) ≡ true
    or_true true t = refl
    or_true false t = refl

    marked_second : (a b : ℕ) (more : List ℕ) → b ≡ 39 → has_mark (a ∷ b ∷ more) ≡ true
    marked_second a b more q = subst (λ b. has_mark (a ∷ b ∷ more) ≡ true) (sym q) (or_true (a == 39) (has_mark more))

pub variables_apart : (names : List (List ℕ)) (x : List ℕ) (j : ℕ) → has_mark x ≡ false → j < 2 ^ 64 → name_among names x ≡ pulled_name j → ⊥
variables_apart names x j h l = by (count_by (bytes_eq x) names == 0)
  where
    by : (t : Bool) → (if t then x else kth_name x (count_by (bytes_eq x) names + 1)) ≡ pulled_name j → ⊥
    by true e = marked x j h e
    by false e = kth_apart x (count_by (bytes_eq x) names + 1) j h l e
