-- The last step of a path, the path before it, and a list behind its first item.
use Rattle.std.proofs.Common.{◌≡◌, ℕ, zero, suc, ◌+◌, ◌-◌, List, [], ◌∷◌, ◌++◌, length, take, drop, Some, None, refl, sym, ap, ◌∙◌, arith, length-drop}
use Rattle.std.specs.Prelude.{slice_get}
use Rattle.std.proofs.Math.Seq.{take-length}
use Rattle.floyd_tree.specs.declared.paths.PathStep.{PathStep}

pub no_step : (path : List PathStep) → length path ≡ 0 → None ≡ slice_get path (length path - 1)
no_step [] e = refl
no_step (step ∷ path) e = absurd (omega (arith, e))

taken : (path : List PathStep) (i : ℕ) (s : PathStep) → slice_get path i ≡ Some s → take (suc i) path ≡ take i path ++ s ∷ []
taken [] i s e = absurd cc
taken (t ∷ path) zero s e = ap (λ x. x ∷ []) (let same : t ≡ s = cc in same)
taken (t ∷ path) (suc i) s e = ap (λ xs. t ∷ xs) (taken path i s e)

-- one step more is before a place
pub step_taken : (path : List PathStep) (i : ℕ) (s t : PathStep) (outer all : List PathStep) → slice_get path i ≡ Some s → t ≡ s → all ≡ outer ++ t ∷ [] → outer ≡ take i path → all ≡ take (i + 1) path
step_taken path i s t outer all e same more so =
    let next : suc i ≡ i + 1 = omega arith in
    more ∙ ap (λ xs. xs ++ t ∷ []) so ∙ ap (λ x. take i path ++ x ∷ []) same ∙ sym (taken path i s e) ∙ ap (λ n. take n path) next

-- behind the first item
pub rest_taken : {A : Type 0} (xs : List A) → take (length xs - 1) (drop 1 xs) ≡ drop 1 xs
rest_taken xs = ap (λ n. take n (drop 1 xs)) (sym (length-drop 1 xs)) ∙ take-length (drop 1 xs)

pub no_rest : {A : Type 0} (xs : List A) → length xs ≡ 0 → xs ≡ drop 1 xs
no_rest [] e = refl
no_rest (x ∷ xs) e = absurd (omega (arith, e))
