-- The tokens that are left of a file.
use Rattle.std.specs.Prelude.{◌≡◌, ℕ, List, [], ◌∷◌, drop}
use Rattle.floyd_text.specs.declared.place.Place.{Place}
use Rattle.floyd_lex.specs.Token.{Token, tokens_in}
use Rattle.floyd_check_stub.specs.declared.left.Left.{Left}

-- the tokens from one of them on
unfoldable pub left : Left → List Token
left l = drop l.at (tokens_in l.bytes.now l.tokens.now)

-- the first of them has this text, and these are behind it
abbrev pub Begins : List Token → List ℕ → List Token → Type 0
Begins [] text rest = ⊥
Begins (t ∷ ts) text rest = (t.text ≡ text) × (ts ≡ rest)

-- the first of them has this place
abbrev pub IsPlaced : List Token → Place → Type 0
IsPlaced [] place = ⊥
IsPlaced (t ∷ ts) place = t.place ≡ place
