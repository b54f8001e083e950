-- One more of the terms or formulas stands with its holes.
use Rattle.std.proofs.Common.{◌≡◌, ℕ, ◌+◌, ◌<◌, Bool, true, false, ◌||◌, List, [], ◌∷◌, ◌++◌, map, length, drop, get_or, refl, sym, ap, ◌∙◌}
use Rattle.std.proofs.lemmas.List.{append_assoc, drop_more}

or_assoc : (a b c : Bool) → ((a || b) || c) ≡ (a || (b || c))
or_assoc true b c = refl
or_assoc false b c = refl

module _ {X : Type 0} (xs : List X) (i : ℕ) (x : X) (within : i < length xs) (here : x ≡ get_or xs i x) where
  step : drop i xs ≡ x ∷ drop (i + 1) xs
  step = drop_more xs i x within ∙ ap (λ y. y ∷ drop (i + 1) xs) (sym here)

  pub one_more : (f : X → X) (new : X) (all now : List X) → new ≡ f x → now ≡ all ++ new ∷ [] → all ++ map f (drop i xs) ≡ map f xs → now ++ map f (drop (i + 1) xs) ≡ map f xs
  one_more f new all now is pushed so_far =
      let rest : List X = map f (drop (i + 1) xs) in
      ap (λ l. l ++ rest) pushed
      ∙ append_assoc all (new ∷ []) rest
      ∙ ap (λ y. all ++ y ∷ rest) is
      ∙ ap (λ l. all ++ map f l) (sym step)
      ∙ so_far

  pub one_told : (one : X → Bool) (some : List X → Bool) → ((y : X) (ys : List X) → some (y ∷ ys) ≡ (one y || some ys)) → (before made now : Bool) → made ≡ one x → now ≡ (before || made) → (before || some (drop i xs)) ≡ some xs → (now || some (drop (i + 1) xs)) ≡ some xs
  one_told one some by before made now is told so_far =
      let rest : Bool = some (drop (i + 1) xs) in
      ap (λ b. b || rest) told
      ∙ or_assoc before made rest
      ∙ ap (λ b. before || (b || rest)) is
      ∙ ap (λ b. before || b) (sym (by x (drop (i + 1) xs)))
      ∙ ap (λ l. before || some l) (sym step)
      ∙ so_far
