-- The first token that is left.
use Rattle.std.proofs.Common.{◌≡◌, ℕ, ◌+◌, ◌≤◌, List, [], ◌∷◌, map, length, drop, Option, Some, None, refl, sym, ap, subst, ◌∙◌, arith}
use Rattle.std.specs.Prelude.{slice_get, option_map}
use Rattle.std.proofs.lemmas.List.{drop-map, drop_more, drop_all, length-map}
use Rattle.std.proofs.lemmas.Option.{get_or_from_slice_get, slice_get_within, same_Some, none-some}
use Rattle.floyd_text.specs.declared.place.Place.{Place}
use Rattle.floyd_lex.specs.Token.{Token, TokenList, Lexeme, text_of, token_of, tokens_in}
use Rattle.floyd_check_stub.specs.Forms.{texts}
use Rattle.floyd_check_stub.specs.LeftClauses.{Begins, IsPlaced}

module _ (bytes : List ℕ) (list : TokenList) (at : ℕ) where
  abbrev pub here : List Token
  here = drop at (tokens_in bytes list)

  abbrev pub behind : List Token
  behind = drop (at + 1) (tokens_in bytes list)

  pub none_left : length list.items ≤ at → here ≡ []
  none_left h = drop_all at (tokens_in bytes list) (omega (arith, h, length-map list.items (token_of bytes)))

  split : (x : Lexeme) → slice_get list.items at ≡ Some x → here ≡ token_of bytes x ∷ behind
  split x e =
      drop-map (token_of bytes) at list.items
      ∙ ap (map (token_of bytes)) (drop_more list.items at x (slice_get_within list.items at x e))
      ∙ ap (λ (y : Lexeme). token_of bytes y ∷ map (token_of bytes) (drop (at + 1) list.items)) (get_or_from_slice_get list.items at x x e)
      ∙ ap (λ (ts : List Token). token_of bytes x ∷ ts) (sym (drop-map (token_of bytes) (at + 1) list.items))

  pub begins : (text : List ℕ) → option_map (text_of bytes) (slice_get list.items at) ≡ Some text → Begins here text behind
  begins text e = by_first (slice_get list.items at) refl e
    where
      by_first : (o : Option Lexeme) → slice_get list.items at ≡ o → option_map (text_of bytes) o ≡ Some text → Begins here text behind
      by_first None is e = absurd (none-some text e)
      by_first (Some x) is e = subst (λ (ts : List Token). Begins ts text behind) (sym (split x is)) (same_Some (text_of bytes x) text e, refl)

  pub is_placed : (place : Place) → option_map (λ (x : Lexeme). x.place) (slice_get list.items at) ≡ Some place → IsPlaced here place
  is_placed place e = by_first (slice_get list.items at) refl e
    where
      by_first : (o : Option Lexeme) → slice_get list.items at ≡ o → option_map (λ (x : Lexeme). x.place) o ≡ Some place → IsPlaced here place
      by_first None is e = absurd (none-some place e)
      by_first (Some x) is e = subst (λ (ts : List Token). IsPlaced ts place) (sym (split x is)) (same_Some x.place place e)

-- the same of the texts alone
pub begin_texts : (ts rest : List Token) (text : List ℕ) → Begins ts text rest → texts ts ≡ text ∷ texts rest
begin_texts [] rest text h = absurd h
begin_texts (t ∷ ts) rest text h =
    let first = h.0 in
    let others = h.1 in
    cc
