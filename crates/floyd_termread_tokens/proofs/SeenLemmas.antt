-- Tokens as the code sees them: the one at a number, and those from it on.
use Rattle.std.proofs.Common.{◌≡◌, ℕ, zero, suc, ◌+◌, ◌-◌, ◌<◌, ◌≤◌, List, [], ◌∷◌, ◌++◌, length, take, drop, replicate, Result, Ok, Err, refl, sym, ◌∙◌, ap, length-drop, length-append, append-nil, sub-one, arith}
use Rattle.std.specs.Prelude.{Option, Some, None, slice_get, option_map}
use Rattle.std.proofs.lemmas.List.{length-map, length-replicate}
use Rattle.floyd_lex.specs.declared.kinds.TokenKind.{TokenKind}
use Rattle.floyd_text.specs.declared.place.Place.{Place}
use Rattle.floyd_lex.specs.Token.{Token, TokenList, Lexeme, token_of, text_of, tokens_in}
use Rattle.floyd_cparse_tokens.proofs.SightLemmas.{kind_at, there, behind_all}
use Rattle.floyd_termread_tokens.specs.Tokens.{cut}
use Rattle.floyd_termread_tokens.specs.SeenClauses.{first_of, tokens_from, tokens_until, token_at, kind_or_cut, take_as}

lexeme_is : (x y : Lexeme) → Some x ≡ Some y → x ≡ y
lexeme_is x y e = cc

-- a list that begins with a token
again : {ts : List Token} {t : Token} {rest : List Token} → ts ≡ t ∷ rest → ts ≡ t ∷ drop 1 ts
again {ts} {t} e = e ∙ ap (λ (z : List Token). t ∷ drop 1 z) (sym e)

one_cut : (n : ℕ) → (n ≡ 0 → ⊥) → replicate n cut ≡ cut ∷ replicate (n - 1) cut
one_cut zero some = absurd (some refl)
one_cut (suc n) some = ap (λ (m : ℕ). cut ∷ replicate m cut) (sym (sub-one (suc n)))

module _ (bytes : List ℕ) (list : TokenList) (at : ℕ) where
  -- the tokens from it on begin with it
  pub from_here : (kind : TokenKind) → kind_at list at ≡ Some kind → tokens_from bytes list at ≡ token_at bytes list at ∷ tokens_from bytes list (at + 1)
  from_here kind e =
      let x = there bytes list at kind e in
      x.3 ∙ ap (λ (z : List Token). first_of z ∷ tokens_from bytes list (at + 1)) (sym x.3)

  pub from_end : kind_at list at ≡ None → tokens_from bytes list at ≡ []
  from_end e = behind_all bytes list at e

  -- how many there are
  pub count_from : length (tokens_from bytes list at) ≡ length list.items - at
  count_from = length-drop at (tokens_in bytes list) ∙ ap (λ (n : ℕ). n - at) (length-map list.items (token_of bytes))

  pub seen_kind : (kind : TokenKind) → kind_or_cut (kind_at list at) ≡ kind → (token_at bytes list at).kind ≡ kind
  seen_kind kind e = go (kind_at list at) refl
    where
      go : (o : Option TokenKind) → kind_at list at ≡ o → (token_at bytes list at).kind ≡ kind
      go None h = ap (λ (z : List Token). (first_of z).kind) (from_end h) ∙ sym (ap kind_or_cut h) ∙ e
      go (Some found) h =
          let x = there bytes list at found h in
          ap (λ (z : List Token). (first_of z).kind) x.3 ∙ x.2 ∙ sym (ap kind_or_cut h) ∙ e

  -- there is one, where the number is below their count
  kind_within : at < length list.items → (kind : TokenKind) × (kind_at list at ≡ Some kind)
  kind_within within = go (kind_at list at) refl
    where
      go : (o : Option TokenKind) → kind_at list at ≡ o → (kind : TokenKind) × (kind_at list at ≡ Some kind)
      go None h = absurd (omega (arith, within, count_from, ap length (from_end h)))
      go (Some kind) h = (kind, h)

  -- what is told of a token
  seen_as : {A : Type 0} (f : Lexeme → A) (h : Token → A) → ((x : Lexeme) → h (token_of bytes x) ≡ f x) → (y : A) → option_map f (slice_get list.items at) ≡ Some y → h (token_at bytes list at) ≡ y
  seen_as {A} f h same y e = go (slice_get list.items at) refl e
    where
      go : (o : Option Lexeme) → slice_get list.items at ≡ o → option_map f o ≡ Some y → h (token_at bytes list at) ≡ y
      go None q r = absurd cc
      go (Some x) q r =
          let d = there bytes list at x.kind (ap (option_map (λ (z : Lexeme). z.kind)) q) in
          let one : d.0 ≡ x = lexeme_is d.0 x (sym d.1 ∙ q) in
          let is : f x ≡ y = cc in
          ap (λ (l : List Token). h (first_of l)) d.3 ∙ same d.0 ∙ ap f one ∙ is

  pub seen_place : (place : Place) → option_map (λ (x : Lexeme). x.place) (slice_get list.items at) ≡ Some place → (token_at bytes list at).place ≡ place
  seen_place place e = seen_as (λ (x : Lexeme). x.place) (λ (t : Token). t.place) (λ x. refl) place e

  pub seen_text : (text : List ℕ) → option_map (text_of bytes) (slice_get list.items at) ≡ Some text → (token_at bytes list at).text ≡ text
  seen_text text e = seen_as (text_of bytes) (λ (t : Token). t.text) (λ x. refl) text e

  seen_cut : length list.items ≤ at → token_at bytes list at ≡ cut
  seen_cut past = ap first_of (none (tokens_from bytes list at) (omega (arith, past, count_from)))
    where
      none : (ts : List Token) → length ts ≡ 0 → ts ≡ []
      none [] e = refl
      none (t ∷ ts) e = absurd (omega (arith, e))

-- behind the last
past_cut : (bytes : List ℕ) (list : TokenList) → token_at bytes list (length list.items) ≡ cut
past_cut bytes list = seen_cut bytes list (length list.items) (omega arith)

module _ (bytes : List ℕ) (list : TokenList) (at : ℕ) where
  -- a text that is cut off
  module _ (end cuts : ℕ) where
    pub until_here : at < end → end ≤ length list.items → tokens_until bytes list at end cuts ≡ token_at bytes list at ∷ tokens_until bytes list (at + 1) end cuts
    until_here before within =
        let found = kind_within bytes list at (omega (arith, before, within)) in
        let count : end - at ≡ suc (end - (at + 1)) = omega (arith, before) in
        ap (λ (n : ℕ). take n (tokens_from bytes list at) ++ replicate cuts cut) count
        ∙ ap (λ (z : List Token). take (suc (end - (at + 1))) z ++ replicate cuts cut) (from_here bytes list at found.0 found.1)

    pub count_until : end ≤ length list.items → length (tokens_until bytes list at end cuts) ≡ end - at + cuts
    count_until within =
        length-append (take (end - at) (tokens_from bytes list at)) (replicate cuts cut)
        ∙ ap (λ (n : ℕ). n + length (replicate cuts cut)) (taken (end - at) (tokens_from bytes list at) (omega (arith, within, count_from bytes list at)))
        ∙ ap (λ (n : ℕ). end - at + n) (length-replicate cuts cut)
      where
        taken : (n : ℕ) (ts : List Token) → n ≤ length ts → length (take n ts) ≡ n
        taken zero ts le = refl
        taken (suc n) [] le = absurd (omega (arith, le))
        taken (suc n) (t ∷ ts) le = ap (λ (k : ℕ). suc k) (taken n ts (omega (arith, le)))

    pub until_first : at < end → end ≤ length list.items → tokens_until bytes list at end cuts ≡ token_at bytes list at ∷ drop 1 (tokens_until bytes list at end cuts)
    until_first before within = again (until_here before within)

    pub until_next : at < end → end ≤ length list.items → tokens_until bytes list (at + 1) end cuts ≡ drop 1 (tokens_until bytes list at end cuts)
    until_next before within = sym (ap (drop 1) (until_here before within))

    -- where none is left before the end
    pub until_end : end ≤ at → tokens_until bytes list at end cuts ≡ replicate cuts cut
    until_end past =
        let none : end - at ≡ 0 = omega (arith, past) in
        ap (λ (n : ℕ). take n (tokens_from bytes list at) ++ replicate cuts cut) none

    pub end_first : end ≤ at → (cuts ≡ 0 → ⊥) → tokens_until bytes list at end cuts ≡ token_at bytes list (length list.items) ∷ drop 1 (tokens_until bytes list at end cuts)
    end_first past some =
        let here = until_end past ∙ one_cut cuts some in
        again (here ∙ ap (λ (t : Token). t ∷ replicate (cuts - 1) cut) (sym (past_cut bytes list)))

    pub end_next : end ≤ at → (cuts ≡ 0 → ⊥) → replicate (cuts - 1) cut ≡ drop 1 (tokens_until bytes list at end cuts)
    end_next past some = sym (ap (drop 1) (until_end past ∙ one_cut cuts some))

    pub end_none : end ≤ at → cuts ≡ 0 → tokens_until bytes list at end cuts ≡ []
    end_none past none = until_end past ∙ ap (λ (n : ℕ). replicate n cut) none

-- a text that is not cut off
pub until_all : (bytes : List ℕ) (list : TokenList) (at : ℕ) → tokens_until bytes list at (length list.items) 0 ≡ tokens_from bytes list at
until_all bytes list at =
    append-nil (take (length list.items - at) (tokens_from bytes list at))
    ∙ ap (λ (n : ℕ). take n (tokens_from bytes list at)) (sym (count_from bytes list at)) ∙ take_whole (tokens_from bytes list at)
  where
    take_whole : (ts : List Token) → take (length ts) ts ≡ ts
    take_whole [] = refl
    take_whole (t ∷ ts) = ap (λ (l : List Token). t ∷ l) (take_whole ts)

-- what is taken, and what stops
pub taken_here : {A : Type 0} (x : A) (ts : List Token) → (length ts ≡ 0 → ⊥) → take_as (Ok x) ts ≡ Ok (x, drop 1 ts)
taken_here x [] some = absurd (some refl)
taken_here x (t ∷ ts) some = refl

pub refused_here : {A : Type 0} (cause : ℕ) (ts : List Token) → (length ts ≡ 0 → ⊥) → take_as {A = A} (Err cause) ts ≡ Err record { left = length ts; cause = cause }
refused_here cause [] some = absurd (some refl)
refused_here cause (t ∷ ts) some = refl
