-- Where a bracket opens, there is room behind it.
use Rattle.std.proofs.Common.{◌≡◌, ℕ, zero, suc, ◌+◌, ◌||◌, nat_lt, Bool, true, false, if◌then◌else◌, Result, Ok, Err, refl, sym, ◌∙◌, ap, true≢false, lt-ltb, arith}
use Rattle.std.specs.Prelude.{Option, Some, None}
use Rattle.floyd_text.specs.declared.place.Place.{Place}
use Rattle.floyd_lex.specs.declared.kinds.Punctuator.{Punctuator}
use Rattle.floyd_lex.specs.declared.kinds.Punctuator.TheVariants as p
use Rattle.floyd_lex.specs.declared.kinds.TokenKind.TheVariants as k
use Rattle.floyd_lex.specs.Token.{Token}
use Rattle.floyd_cparse_tokens.specs.Tokens.{number, is_mark_kind}
use Rattle.floyd_cparse_tokens.proofs.TokenLemmas.{or_fails}
use Rattle.floyd_grammar.proofs.Either.{or_left, or_right}
use Rattle.floyd_termread_tokens.specs.Tokens.{is_mark, is_cut, is_opening, is_closing, is_deep, place_if, unless_cut, offer, demand}
use Rattle.floyd_termread_tokens.proofs.TakeLemmas.{mark_apart}

-- what some room is: one more than what is left inside
abbrev pub Room : ℕ → Type 0
Room room = (r : ℕ) × (room ≡ suc r)

not_closing : (t : Token) → is_opening t ≡ true → is_closing t ≡ false
not_closing t e = go (is_mark p.OpenParen t) refl
  where
    apart : (mark : Punctuator) → is_mark_kind p.CloseParen (k.Punctuator mark) ≡ false → is_mark_kind p.CloseBracket (k.Punctuator mark) ≡ false → is_mark mark t ≡ true → is_closing t ≡ false
    apart mark a b h = or_fails (is_mark p.CloseParen t) (is_mark p.CloseBracket t) (mark_apart mark p.CloseParen t a h) (mark_apart mark p.CloseBracket t b h)

    go : (b : Bool) → is_mark p.OpenParen t ≡ b → is_closing t ≡ false
    go true h = apart p.OpenParen refl refl h
    go false h = apart p.OpenBracket refl refl (ap (λ (b : Bool). b || is_mark p.OpenBracket t) (sym h) ∙ e)

pub room_left : (room count : ℕ) (t : Token) → is_opening t ≡ true → is_deep room count t ≡ false → Room room
room_left (suc r) count t opens shallow = (r, refl)
room_left zero count t opens shallow = absurd (true≢false (sym deep ∙ shallow))
  where
    deep : is_deep zero count t ≡ true
    deep =
        ap (λ (b : Bool). nat_lt (0 + number b) (count + number (is_opening t))) (not_closing t opens)
        ∙ ap (λ (b : Bool). nat_lt (0 + number false) (count + number b)) opens ∙ lt-ltb (0 + number false) (count + number true) (omega arith)

-- what is offered or demanded, and taken, is there and not too deep
pub offered : {A : Type 0} (room count : ℕ) (t : Token) (o : Option A) (x : A) → offer room count t o ≡ Ok x → (o ≡ Some x) × (is_deep room count t ≡ false)
offered room count t None x e = absurd cc
offered {A} room count t (Some y) x e = go (is_deep room count t) refl e
  where
    go : (b : Bool) → is_deep room count t ≡ b → (if b then (let z : Result A ℕ = Err 1 in z) else Ok y) ≡ Ok x → (Some y ≡ Some x) × (is_deep room count t ≡ false)
    go true h q = absurd cc
    go false h q = (cc, h)

pub demanded : {A : Type 0} (room count : ℕ) (t : Token) (o : Option A) (x : A) → demand room count t o ≡ Ok x → (o ≡ Some x) × (is_deep room count t ≡ false)
demanded room count t None x e = absurd cc
demanded {A} room count t (Some y) x e = go (is_deep room count t) refl e
  where
    go : (b : Bool) → is_deep room count t ≡ b → (if b then (let z : Result A ℕ = Err 1 in z) else Ok y) ≡ Ok x → (Some y ≡ Some x) × (is_deep room count t ≡ false)
    go true h q = absurd cc
    go false h q = (cc, h)

-- what is taken is missing, where the text is cut off, or is found
pub taken_or : {A P : Type 0} (t : Token) (missing : A) (found : Result A ℕ) (x : A) → unless_cut t missing found ≡ Ok x → (missing ≡ x → P) → (found ≡ Ok x → P) → P
taken_or {A} {P} t missing found x e m f = go (is_cut t) e
  where
    go : (b : Bool) → (if b then Ok missing else found) ≡ Ok x → P
    go true q = m cc
    go false q = f q

-- the place of a mark
pub mark_there : (mark : Punctuator) (t : Token) (place : Place) → place_if (is_mark mark t) t ≡ Some place → is_mark mark t ≡ true
mark_there mark t place e = go (is_mark mark t) e
  where
    go : (b : Bool) → place_if b t ≡ Some place → b ≡ true
    go true q = refl
    go false q = absurd cc

pub parenthesis_opens : (t : Token) → is_mark p.OpenParen t ≡ true → is_opening t ≡ true
parenthesis_opens t e = or_left (is_mark p.OpenParen t) (is_mark p.OpenBracket t) e

pub bracket_opens : (t : Token) → is_mark p.OpenBracket t ≡ true → is_opening t ≡ true
bracket_opens t e = or_right (is_mark p.OpenParen t) (is_mark p.OpenBracket t) e
