-- Two lists of binders by their places.
use Rattle.std.proofs.Common.{◌≡◌, ℕ, zero, suc, ◌+◌, ◌<◌, ◌≤◌, List, [], ◌∷◌, length, take, get_or, refl, sym, ap, subst, ◌∙◌, arith}
use Rattle.floyd_assert.specs.AroundClauses.{inside}
use Rattle.floyd_assert_trees.specs.declared.binder.Binder.{Binder}
use Rattle.floyd_truth.specs.Same.{Binders}

pub left_whole : (xs ys : List Binder) (n : ℕ) (outer : Binders) → n ≡ length xs → inside (take n xs) (take n ys) outer ≡ inside xs ys outer
left_whole [] ys zero outer e = refl
left_whole [] ys (suc n) outer e = absurd (omega arith)
left_whole (x ∷ xs) ys zero outer e = absurd (omega arith)
left_whole (x ∷ xs) [] (suc n) outer e = refl
left_whole (x ∷ xs) (y ∷ ys) (suc n) outer e = left_whole xs ys n ((x.name, y.name) ∷ outer) (omega arith)

pub right_whole : (xs ys : List Binder) (n : ℕ) (outer : Binders) → n ≡ length ys → inside (take n xs) (take n ys) outer ≡ inside xs ys outer
right_whole [] ys zero outer e = refl
right_whole [] [] (suc n) outer e = refl
right_whole [] (y ∷ ys) (suc n) outer e = refl
right_whole (x ∷ xs) [] zero outer e = refl
right_whole (x ∷ xs) [] (suc n) outer e = refl
right_whole (x ∷ xs) (y ∷ ys) zero outer e = absurd (omega arith)
right_whole (x ∷ xs) (y ∷ ys) (suc n) outer e = right_whole xs ys n ((x.name, y.name) ∷ outer) (omega arith)

-- the innermost of the first ones
pub innermost : (xs ys : List Binder) (i : ℕ) (d e : Binder) (outer : Binders) → i < length xs → i < length ys → inside (take (suc i) xs) (take (suc i) ys) outer ≡ ((get_or xs i d).name, (get_or ys i e).name) ∷ inside (take i xs) (take i ys) outer
innermost [] ys i d e outer l m = absurd (omega arith)
innermost (x ∷ xs) [] i d e outer l m = absurd (omega arith)
innermost (x ∷ xs) (y ∷ ys) zero d e outer l m = refl
innermost (x ∷ xs) (y ∷ ys) (suc i) d e outer l m = innermost xs ys i d e ((x.name, y.name) ∷ outer) (omega arith) (omega arith)

pub last_of_both : (xs ys : List Binder) (n i : ℕ) (d e : Binder) (outer : Binders) → n ≡ suc i → i < length xs → i < length ys → inside (take n xs) (take n ys) outer ≡ ((get_or xs i d).name, (get_or ys i e).name) ∷ inside (take i xs) (take i ys) outer
last_of_both xs ys n i d e outer p l m =
    subst (λ k. inside (take k xs) (take k ys) outer ≡ ((get_or xs i d).name, (get_or ys i e).name) ∷ inside (take i xs) (take i ys) outer) (sym p) (innermost xs ys i d e outer l m)
