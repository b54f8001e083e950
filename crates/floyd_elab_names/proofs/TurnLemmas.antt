-- One after the other, step by step.
use Rattle.std.proofs.Common.{◌≡◌, ℕ, ◌+◌, ◌<◌, ◌≤◌, List, map, length, get_or, drop, Result, Ok, Err, IsErrAnd, ap, sym, ◌∙◌, subst}
use Rattle.std.proofs.lemmas.List.{drop_more}
use Rattle.std.proofs.Math.ListN.{drop_of_length-le}
use Rattle.floyd_text.specs.declared.refusal.Halt.{Halt}
use Rattle.floyd_text.specs.declared.refusal.Halt.TheVariants.{Refused, Memory}
use Rattle.floyd_text.specs.declared.refusal.Refusal.{Refusal}
use Rattle.floyd_text.specs.Gives.{Stops}
use Rattle.floyd_elab_names.specs.Refusing.{Refusing, GivesWith, and_then, in_turn}

-- a call answers what stopped it
pub stops_with : {S X Y : Type 0} (view : X → Y) (result : Result X Halt) (halt : Halt) (kept : S) (wanted : Result (Y × S) Refusal)
    → IsErrAnd result (λ e. e ≡ halt) → Stops halt wanted → GivesWith view result kept wanted
stops_with view (Ok x) halt kept wanted h g = absurd h
stops_with view (Err e) halt kept wanted h g = subst (λ (x : Halt). Stops x wanted) (sym h) g

module _ {S A B : Type 0} (next : A → Refusing S B) where
  -- where the first stops, all does
  pub stops_first : (halt : Halt) (r : Result (A × S) Refusal) → Stops halt r → Stops halt (and_then r next)
  stops_first (Refused refusal) r e = ap (λ x. and_then x next) e
  stops_first Memory r e = tt

  pub first_done : (r : Result (A × S) Refusal) (a : A) (s : S) → r ≡ Ok (a, s) → and_then r next ≡ next a s
  first_done r a s e = ap (λ x. and_then x next) e

module _ {S X A : Type 0} (f : X → A → Refusing S A) (xs : List X) (i : ℕ) where
  turn : (x : X) → i < length xs → (a : A) (s : S) → in_turn (map f (drop i xs)) a s ≡ and_then (f (get_or xs i x) a s) (in_turn (map f (drop (i + 1) xs)))
  turn x h a s = ap (λ ys. in_turn (map f ys) a s) (drop_more xs i x h)

  pub turn_next : (x : X) → i < length xs → x ≡ get_or xs i x → (a b : A) (s t : S) → f x a s ≡ Ok (b, t)
      → in_turn (map f (drop i xs)) a s ≡ in_turn (map f (drop (i + 1) xs)) b t
  turn_next x h is a b s t e =
      turn x h a s ∙ ap (λ r. and_then r (in_turn (map f (drop (i + 1) xs)))) (ap (λ y. f y a s) (sym is) ∙ e)

  pub turn_stops : (x : X) → i < length xs → x ≡ get_or xs i x → (a : A) (s : S) (halt : Halt) → Stops halt (f x a s)
      → Stops halt (in_turn (map f (drop i xs)) a s)
  turn_stops x h is a s halt e =
      subst (Stops halt) (sym (turn x h a s)) (stops_first (in_turn (map f (drop (i + 1) xs))) halt (f (get_or xs i x) a s) (subst (λ y. Stops halt (f y a s)) is e))

  pub turn_done : length xs ≤ i → (a : A) (s : S) → in_turn (map f (drop i xs)) a s ≡ Ok (a, s)
  turn_done h a s = ap (λ ys. in_turn (map f ys) a s) (drop_of_length-le xs h)
