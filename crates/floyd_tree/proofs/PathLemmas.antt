-- The places of a path, each of which holds a step.
use Rattle.std.proofs.Common.{◌≡◌, ℕ, zero, suc, ◌<◌, List, [], ◌∷◌, ◌++◌, length, get_or, Option, Some, None, refl, ap, arith}
use Rattle.std.specs.Prelude.{slice_get}
use Rattle.floyd_tree.specs.declared.paths.PathStep.{PathStep}
use Rattle.floyd_tree.specs.Paths.{steps_in, AllHold}

pub length-steps_in : (xs : List (Option PathStep)) → AllHold xs → length (steps_in xs) ≡ length xs
length-steps_in [] h = refl
length-steps_in (Some s ∷ xs) h = ap suc (length-steps_in xs h)
length-steps_in (None ∷ xs) h = absurd h

pub steps_in-push : (xs : List (Option PathStep)) (s : PathStep) → steps_in (xs ++ Some s ∷ []) ≡ steps_in xs ++ s ∷ []
steps_in-push [] s = refl
steps_in-push (Some t ∷ xs) s = ap (λ ys. t ∷ ys) (steps_in-push xs s)
steps_in-push (None ∷ xs) s = steps_in-push xs s

pub AllHold-push : (xs : List (Option PathStep)) (s : PathStep) → AllHold xs → AllHold (xs ++ Some s ∷ [])
AllHold-push [] s h = tt
AllHold-push (Some t ∷ xs) s h = AllHold-push xs s h
AllHold-push (None ∷ xs) s h = absurd h

pub step_at : (xs : List (Option PathStep)) (i : ℕ) (d : Option PathStep) (s : PathStep) → AllHold xs → i < length xs → get_or xs i d ≡ Some s → slice_get (steps_in xs) i ≡ Some s
step_at [] i d s h l e = absurd (omega arith)
step_at (Some t ∷ xs) zero d s h l e = e
step_at (Some t ∷ xs) (suc i) d s h l e = step_at xs i d s h (omega arith) e
step_at (None ∷ xs) i d s h l e = absurd h

pub none_at : (xs : List (Option PathStep)) (i : ℕ) (d : Option PathStep) → AllHold xs → i < length xs → get_or xs i d ≡ None → ⊥
none_at [] i d h l e = omega arith
none_at (Some t ∷ xs) zero d h l e = cc
none_at (Some t ∷ xs) (suc i) d h l e = none_at xs i d h (omega arith) e
none_at (None ∷ xs) i d h l e = h
