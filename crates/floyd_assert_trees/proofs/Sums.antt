-- Sums over what is left of a list.
use Rattle.std.proofs.Common.{◌≡◌, ℕ, zero, suc, ◌+◌, ◌≤◌, List, [], ◌∷◌, Some, length, drop, refl, ap, arith}
use Rattle.std.specs.Prelude.{slice_get}
use Rattle.floyd_assert_trees.specs.Sizes.{sum_of}

pub sum_at_end : {X : Type 0} (f : X → ℕ) (xs : List X) (i : ℕ) → length xs ≤ i → sum_of f (drop i xs) ≡ 0
sum_at_end f [] zero h = refl
sum_at_end f [] (suc i) h = refl
sum_at_end f (x ∷ xs) zero h = absurd (omega arith)
sum_at_end f (x ∷ xs) (suc i) h = sum_at_end f xs i (omega arith)

pub sum_at : {X : Type 0} (f : X → ℕ) (xs : List X) (i j : ℕ) (x : X) → j ≡ i + 1 → slice_get xs i ≡ Some x → sum_of f (drop i xs) ≡ f x + sum_of f (drop j xs)
sum_at f xs i zero x n e = absurd (omega arith)
sum_at f [] zero (suc j) x n e = absurd cc
sum_at f [] (suc i) (suc j) x n e = absurd cc
sum_at f (y ∷ xs) zero (suc zero) x n e = ap (λ n. n + sum_of f xs) (ap f cc)
sum_at f (y ∷ xs) zero (suc (suc j)) x n e = absurd (omega arith)
sum_at f (y ∷ xs) (suc i) (suc j) x n e = sum_at f xs i j x (omega arith) e
