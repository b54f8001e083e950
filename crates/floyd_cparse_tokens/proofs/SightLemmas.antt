-- Tokens as the code sees them: the one at a number, and those from it on.
use Rattle.std.proofs.Common.{◌≡◌, ℕ, zero, suc, ◌+◌, ◌-◌, ◌<◌, ◌≤◌, List, [], ◌∷◌, length, drop, Ok, Err, refl, sym, ◌∙◌, ap, length-drop, arith}
use Rattle.std.specs.Prelude.{Option, Some, None, slice_get, option_map}
use Rattle.std.proofs.lemmas.List.{length-map}
use Rattle.std.proofs.lemmas.Option.{slice_get-map, slice_get_within, slice_get_past}
use Rattle.floyd_lex.specs.declared.kinds.TokenKind.{TokenKind}
use Rattle.floyd_lex.specs.Token.{Token, TokenList, Lexeme, token_of, tokens_in}
use Rattle.floyd_cparse_tokens.specs.Tokens.{sights}
use Rattle.floyd_cparse_tokens.specs.SeenClauses.{first_of, sight_at, sights_from, take_as}

abbrev pub kind_at : TokenList → ℕ → Option TokenKind
kind_at list at = option_map (λ (x : Lexeme). x.kind) (slice_get list.items at)

drop_suc : (ts : List Token) (at : ℕ) (t : Token) → slice_get ts at ≡ Some t → drop at ts ≡ t ∷ drop (suc at) ts
drop_suc [] at t e = absurd cc
drop_suc (s ∷ ts) zero t e = let same : s ≡ t = cc in ap (λ (z : Token). z ∷ ts) same
drop_suc (s ∷ ts) (suc at) t e = drop_suc ts at t e

drop_first : (ts : List Token) (at : ℕ) (t : Token) → slice_get ts at ≡ Some t → drop at ts ≡ t ∷ drop (at + 1) ts
drop_first ts at t e = let next : suc at ≡ at + 1 = omega arith in drop_suc ts at t e ∙ ap (λ (n : ℕ). t ∷ drop n ts) next

drop_none : (ts : List Token) (at : ℕ) → slice_get ts at ≡ None → drop at ts ≡ []
drop_none [] zero e = refl
drop_none [] (suc at) e = refl
drop_none (s ∷ ts) zero e = absurd cc
drop_none (s ∷ ts) (suc at) e = drop_none ts at e

mapped : {A B : Type 0} (f : A → B) (o : Option A) (y : B) → option_map f o ≡ Some y → (x : A) × (o ≡ Some x) × (f x ≡ y)
mapped f None y e = absurd cc
mapped f (Some x) y e = (x, refl, cc)

unmapped : {A B : Type 0} (f : A → B) (o : Option A) → option_map f o ≡ None → o ≡ None
unmapped f None e = refl
unmapped f (Some x) e = absurd cc

module _ (bytes : List ℕ) (list : TokenList) (at : ℕ) where
  -- where there is a token
  pub there : (kind : TokenKind) → kind_at list at ≡ Some kind → (x : Lexeme) × (slice_get list.items at ≡ Some x) × (x.kind ≡ kind) × (drop at (tokens_in bytes list) ≡ token_of bytes x ∷ drop (at + 1) (tokens_in bytes list))
  there kind e =
      let found = mapped (λ (x : Lexeme). x.kind) (slice_get list.items at) kind e in
      (found.0, found.1, found.2, drop_first (tokens_in bytes list) at (token_of bytes found.0) (slice_get-map (token_of bytes) list.items at ∙ ap (option_map (token_of bytes)) found.1))

  -- where there is none
  pub behind_all : kind_at list at ≡ None → drop at (tokens_in bytes list) ≡ []
  behind_all e = drop_none (tokens_in bytes list) at (slice_get-map (token_of bytes) list.items at ∙ ap (option_map (token_of bytes)) (unmapped (λ (x : Lexeme). x.kind) (slice_get list.items at) e))

  pub within : (kind : TokenKind) → kind_at list at ≡ Some kind → at < length list.items
  within kind e = let found = mapped (λ (x : Lexeme). x.kind) (slice_get list.items at) kind e in slice_get_within list.items at found.0 found.1

  pub seen_kind : (kind : TokenKind) → kind_at list at ≡ Some kind → (sight_at bytes list at).token.kind ≡ kind
  seen_kind kind e = let x = there kind e in ap (λ (z : List Token). (first_of z).token.kind) x.3 ∙ x.2

  pub seen_token : (kind : TokenKind) → kind_at list at ≡ Some kind → (x : Lexeme) × (slice_get list.items at ≡ Some x) × ((sight_at bytes list at).token ≡ token_of bytes x)
  seen_token kind e = let x = there kind e in (x.0, x.1, ap (λ (z : List Token). (first_of z).token) x.3)

  pub seen_behind : (kind : TokenKind) → kind_at list at ≡ Some kind → (sight_at bytes list at).behind ≡ drop (at + 1) (tokens_in bytes list)
  seen_behind kind e = let x = there kind e in ap (λ (z : List Token). (first_of z).behind) x.3

  -- the tokens from it on begin with it
  pub from_here : (kind : TokenKind) → kind_at list at ≡ Some kind → sights_from bytes list at ≡ sight_at bytes list at ∷ sights_from bytes list (at + 1)
  from_here kind e =
      let x = there kind e in
      ap sights x.3 ∙ ap (λ (z : List Token). first_of z ∷ sights_from bytes list (at + 1)) (sym x.3)

  pub from_end : kind_at list at ≡ None → sights_from bytes list at ≡ []
  from_end e = ap sights (behind_all e)

  -- the token behind
  pub seen_next : (kind next : TokenKind) → kind_at list at ≡ Some kind → kind_at list (at + 1) ≡ Some next → (sight_at bytes list at).behind ≡ (sight_at bytes list (at + 1)).token ∷ (sight_at bytes list (at + 1)).behind
  seen_next kind next e f =
      let x = there kind e in
      seen_behind kind e ∙ first_again (drop (at + 1) (tokens_in bytes list)) (some_there f)
    where
      first_again : (ts : List Token) → ((t : Token) × (r : List Token) × (ts ≡ t ∷ r)) → ts ≡ (first_of ts).token ∷ (first_of ts).behind
      first_again [] d = absurd cc
      first_again (t ∷ r) d = refl

      some_there : kind_at list (at + 1) ≡ Some next → (t : Token) × (r : List Token) × (drop (at + 1) (tokens_in bytes list) ≡ t ∷ r)
      some_there f =
          let found = mapped (λ (x : Lexeme). x.kind) (slice_get list.items (at + 1)) next f in
          (token_of bytes found.0, drop (at + 1 + 1) (tokens_in bytes list), drop_first (tokens_in bytes list) (at + 1) (token_of bytes found.0) (slice_get-map (token_of bytes) list.items (at + 1) ∙ ap (option_map (token_of bytes)) found.1))

  pub seen_last : (kind : TokenKind) → kind_at list at ≡ Some kind → kind_at list (at + 1) ≡ None → (sight_at bytes list at).behind ≡ []
  seen_last kind e f = seen_behind kind e ∙ drop_none (tokens_in bytes list) (at + 1) (slice_get-map (token_of bytes) list.items (at + 1) ∙ ap (option_map (token_of bytes)) (unmapped (λ (x : Lexeme). x.kind) (slice_get list.items (at + 1)) f))

  pub seen_end : (kind : TokenKind) → kind_at list at ≡ Some kind → length list.items ≤ at + 1 → (sight_at bytes list at).behind ≡ []
  seen_end kind e past = seen_last kind e (ap (option_map (λ (x : Lexeme). x.kind)) (slice_get_past list.items (at + 1) past))

  -- how many there are
  pub count_from : length (sights_from bytes list at) ≡ length list.items - at
  count_from = count_sights (drop at (tokens_in bytes list)) ∙ length-drop at (tokens_in bytes list) ∙ ap (λ (n : ℕ). n - at) (length-map list.items (token_of bytes))
    where
      count_sights : (ts : List Token) → length (sights ts) ≡ length ts
      count_sights [] = refl
      count_sights (t ∷ ts) = ap suc (count_sights ts)

  -- what is taken, and what stops
  pub taken_here : {A : Type 0} (x : A) → (length list.items - at ≡ 0 → ⊥) → take_as (Ok x) (sights_from bytes list at) ≡ Ok (x, sights_from bytes list (at + 1))
  taken_here x some = go (kind_at list at) refl
    where
      go : (o : Option TokenKind) → kind_at list at ≡ o → take_as (Ok x) (sights_from bytes list at) ≡ Ok (x, sights_from bytes list (at + 1))
      go None e = absurd (some (sym count_from ∙ ap length (from_end e)))
      go (Some kind) e = rw (from_here kind e) refl

  pub refused_here : {A : Type 0} (cause : ℕ) → (length list.items - at ≡ 0 → ⊥) → take_as {A = A} (Err cause) (sights_from bytes list at) ≡ Err record { left = length list.items - at; cause = cause }
  refused_here {A} cause some = go (kind_at list at) refl
    where
      go : (o : Option TokenKind) → kind_at list at ≡ o → take_as {A = A} (Err cause) (sights_from bytes list at) ≡ Err record { left = length list.items - at; cause = cause }
      go None e = absurd (some (sym count_from ∙ ap length (from_end e)))
      go (Some kind) e = rw (← count_from, from_here kind e) refl
