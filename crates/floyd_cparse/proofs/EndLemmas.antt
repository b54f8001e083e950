-- What is left of the tokens of a source, and the refusal there.
use Rattle.std.proofs.Common.{◌≡◌, ℕ, zero, suc, ◌+◌, List, [], ◌∷◌, length, drop, refl, sym, ◌∙◌, ap}
use Rattle.std.specs.Prelude.{Option, Some, None, slice_get, option_map}
use Rattle.std.proofs.lemmas.List.{length-map}
use Rattle.floyd_text.specs.declared.place.Place.{Place}
use Rattle.floyd_lex.specs.Token.{Token, TokenList, Lexeme, text_of, token_of, tokens_in}
use Rattle.floyd_cparse_tokens.specs.Tokens.{Sight, sights}
use Rattle.floyd_text.specs.Refusals.{refusal_at}
use Rattle.floyd_cparse.specs.Source.{tokens_of, code_of, shown_of, refusal_before, refusal_behind}
use Rattle.floyd_cparse_tokens.proofs.SightLemmas.{there}

pub drop_sights : (n : ℕ) (ts : List Token) → drop n (sights ts) ≡ sights (drop n ts)
drop_sights zero ts = refl
drop_sights (suc n) [] = refl
drop_sights (suc n) (t ∷ ts) = drop_sights n ts

some_is : {A : Type 0} (x y : A) → Some x ≡ Some y → x ≡ y
some_is x y e = cc

module _ (bytes : List ℕ) (list : TokenList) where
  pub all_tokens : length (tokens_of bytes list) ≡ length list.items
  all_tokens = count (tokens_in bytes list) ∙ length-map list.items (token_of bytes)
    where
      count : (ts : List Token) → length (sights ts) ≡ length ts
      count [] = refl
      count (t ∷ ts) = ap suc (count ts)

  -- the refusal at a token
  pub refusal_here : (file at cause : ℕ) (text : List ℕ) (place : Place) → option_map (text_of bytes) (slice_get list.items at) ≡ Some text → option_map (λ (x : Lexeme). x.place) (slice_get list.items at) ≡ Some place → refusal_at (code_of cause) place (shown_of cause text) ≡ refusal_behind file bytes (tokens_of bytes list) at cause
  refusal_here file at cause text place e f = go (slice_get list.items at) refl
    where
      go : (o : Option Lexeme) → slice_get list.items at ≡ o → refusal_at (code_of cause) place (shown_of cause text) ≡ refusal_behind file bytes (tokens_of bytes list) at cause
      go None h = absurd (let n = sym (ap (option_map (text_of bytes)) h) ∙ e in cc)
      go (Some x) h =
          let d = there bytes list at x.kind (ap (option_map (λ (z : Lexeme). z.kind)) h) in
          let same : d.0 ≡ x = some_is d.0 x (sym d.1 ∙ h) in
          let t : text_of bytes x ≡ text = some_is (text_of bytes x) text (sym (ap (option_map (text_of bytes)) h) ∙ e) in
          let p : x.place ≡ place = some_is x.place place (sym (ap (option_map (λ (z : Lexeme). z.place)) h) ∙ f) in
          let rest : drop at (tokens_of bytes list) ≡ sights (token_of bytes x ∷ drop (at + 1) (tokens_in bytes list)) = drop_sights at (tokens_in bytes list) ∙ ap sights (d.3 ∙ ap (λ (z : Lexeme). token_of bytes z ∷ drop (at + 1) (tokens_in bytes list)) same) in
          sym (ap (λ (z : List Sight). refusal_before file bytes z cause) rest ∙ ap (λ (z : Place). refusal_at (code_of cause) z (shown_of cause (text_of bytes x))) p ∙ ap (λ (z : List ℕ). refusal_at (code_of cause) place (shown_of cause z)) t)
