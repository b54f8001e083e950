-- Names added to a set, one after the other.
use Rattle.std.proofs.Common.{◌≡◌, ℕ, Bool, true, false, ◌||◌, List, ◌∷◌, refl, ap, sym, ◌∙◌}
use Rattle.floyd_elab_addresses.specs.SetClauses.{is_among, Adds}

pub or-next : (p q s : Bool) → (q || (p || s)) ≡ (p || q || s)
or-next true true s = refl
or-next true false s = refl
or-next false q s = refl

pub or-swap : (p q r : Bool) → (p || q || r) ≡ (p || r || q)
or-swap true q r = refl
or-swap false true true = refl
or-swap false true false = refl
or-swap false false true = refl
or-swap false false false = refl

pub or-flip : (p q : Bool) → (p || q) ≡ (q || p)
or-flip true true = refl
or-flip true false = refl
or-flip false true = refl
or-flip false false = refl

module _ (a b : List (List ℕ)) where
  pub adds_as : (p r : List ℕ → Bool) → ((x : List ℕ) → r x ≡ p x) → Adds p a b → Adds r a b
  adds_as p r same adds x = adds x ∙ sym (ap (λ u. u || is_among a x) (same x))

  pub adds_then : (c : List (List ℕ)) (p q r : List ℕ → Bool) → ((x : List ℕ) → r x ≡ (p x || q x)) → Adds p a b → Adds q b c → Adds r a c
  adds_then c p q r same first second x =
      second x
      ∙ ap (λ u. q x || u) (first x)
      ∙ or-next (p x) (q x) (is_among a x)
      ∙ sym (ap (λ u. u || is_among a x) (same x))

-- a flag in front of others
pub flag_first : (f before : List Bool) (b flag : Bool) → b ≡ flag → f ≡ b ∷ before → f ≡ flag ∷ before
flag_first f before b flag is h = h ∙ ap (λ v. v ∷ before) is
