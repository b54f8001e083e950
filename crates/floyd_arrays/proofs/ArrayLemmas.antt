-- Sizes of arrays, of which the first may be another one.
use Rattle.std.proofs.Common.{◌≡◌, ◌≤◌, ◌-◌, List, [], ◌∷◌, length, take, drop, Result, Ok, Err, refl, sym, ap, ◌∙◌, length-drop, arith}
use Rattle.std.specs.Prelude.{IfOk}
use Rattle.std.proofs.Math.Seq.{take-length}
use Rattle.floyd_tree.specs.Plain.{Plain}
use Rattle.floyd_arrays.specs.Arrays.{with_first}

-- of what may be answered
pub if_ok : {A E : Type 0} (x : Result A E) (P Q : A → Type 0) → ((a : A) → P a → Q a) → IfOk x P → IfOk x Q
if_ok (Ok a) P Q f h = f a h
if_ok (Err e) P Q f h = tt

pub rest_taken : (xs : List Plain) → take (length xs - 1) (drop 1 xs) ≡ drop 1 xs
rest_taken xs = ap (λ n. take n (drop 1 xs)) (sym (length-drop 1 xs)) ∙ take-length (drop 1 xs)

pub no_rest : (xs : List Plain) → length xs ≡ 0 → xs ≡ drop 1 xs
no_rest [] e = refl
no_rest (x ∷ xs) e = absurd (omega (arith, e))

pub with_some : (n : Plain) (sizes others : List Plain) → 1 ≤ length sizes → others ≡ drop 1 sizes → n ∷ others ≡ with_first n sizes
with_some n [] others some e = absurd (omega (arith, some))
with_some n (s ∷ sizes) others some e = ap (λ ss. n ∷ ss) e

pub with_none : (n : Plain) (sizes : List Plain) → length sizes ≡ 0 → [] ≡ with_first n sizes
with_none n [] e = refl
with_none n (s ∷ sizes) e = absurd (omega (arith, e))

pub with_count : (n : Plain) (sizes : List Plain) → length (with_first n sizes) ≡ length sizes
with_count n [] = refl
with_count n (s ∷ sizes) = refl
