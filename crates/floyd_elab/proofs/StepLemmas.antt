-- One after the other, as far as a loop has come.
use Rattle.std.proofs.Common.{◌≡◌, ℕ, ◌+◌, ◌<◌, ◌≤◌, List, [], ◌∷◌, length, drop, get_or, Result, Ok, ap, sym, ◌∙◌}
use Rattle.std.proofs.lemmas.List.{drop_more}
use Rattle.std.proofs.Math.ListN.{drop_of_length-le}
use Rattle.floyd_text.specs.declared.refusal.Halt.{Halt}
use Rattle.floyd_text.specs.declared.refusal.Halt.TheVariants.{Refused, Memory}
use Rattle.floyd_text.specs.declared.refusal.Refusal.{Refusal}
use Rattle.floyd_text.specs.Gives.{Stops}
use Rattle.floyd_elab_names.specs.Refusing.{Refusing, and_then}

module _ {X S : Type 0} (step : X → Refusing S (Unit {0})) (all_of : List X → Refusing S (Unit {0}))
    (none : (s : S) → all_of [] s ≡ Ok (tt, s)) (one : (x : X) (xs : List X) (s : S) → all_of (x ∷ xs) s ≡ and_then (step x s) (λ _. all_of xs)) where
  at_item : (xs : List X) (i : ℕ) (x : X) (s : S) → i < length xs → x ≡ get_or xs i x → all_of (drop i xs) s ≡ and_then (step x s) (λ _. all_of (drop (i + 1) xs))
  at_item xs i x s within is =
      ap (λ (l : List X). all_of l s) (drop_more xs i x within)
      ∙ ap (λ (y : X). all_of (y ∷ drop (i + 1) xs) s) (sym is)
      ∙ one x (drop (i + 1) xs) s

  pub next_done : (xs : List X) (i : ℕ) (x : X) (s now : S) (whole : Result (Unit {0} × S) Refusal) → i < length xs → x ≡ get_or xs i x → step x s ≡ Ok (tt, now)
      → all_of (drop i xs) s ≡ whole → all_of (drop (i + 1) xs) now ≡ whole
  next_done xs i x s now whole within is done held =
      sym (at_item xs i x s within is ∙ ap (λ (r : Result (Unit {0} × S) Refusal). and_then r (λ _. all_of (drop (i + 1) xs))) done) ∙ held

  pub stopped : (xs : List X) (i : ℕ) (x : X) (s : S) (halt : Halt) (whole : Result (Unit {0} × S) Refusal) → i < length xs → x ≡ get_or xs i x → Stops halt (step x s)
      → all_of (drop i xs) s ≡ whole → Stops halt whole
  stopped xs i x s (Refused refusal) whole within is e held =
      sym held ∙ at_item xs i x s within is ∙ ap (λ (r : Result (Unit {0} × S) Refusal). and_then r (λ _. all_of (drop (i + 1) xs))) e
  stopped xs i x s Memory whole within is e held = tt

  pub all_done : (xs : List X) (i : ℕ) (s : S) (whole : Result (Unit {0} × S) Refusal) → length xs ≤ i → all_of (drop i xs) s ≡ whole → whole ≡ Ok (tt, s)
  all_done xs i s whole past held = sym held ∙ ap (λ (l : List X). all_of l s) (drop_of_length-le xs past) ∙ none s
