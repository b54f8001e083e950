-- What is left of the tokens of a source.
use Rattle.std.proofs.Common.{◌≡◌, ℕ, ◌-◌, List, length, Err, refl, sym, ◌∙◌, ap}
use Rattle.std.specs.Prelude.{Option, Some, None}
use Rattle.floyd_lex.specs.declared.kinds.TokenKind.{TokenKind}
use Rattle.floyd_lex.specs.Token.{TokenList}
use Rattle.floyd_grammar.specs.ParseClauses.{ended}
use Rattle.floyd_cparse_tokens.specs.SeenClauses.{sights_from}
use Rattle.floyd_cparse_tokens.proofs.SightLemmas.{kind_at, from_here, from_end, count_from}

module _ (bytes : List ℕ) (list : TokenList) where
  -- what is left where some token is
  pub left_here : {A : Type 0} (at : ℕ) (x : A) → (length list.items - at ≡ 0 → ⊥) → ended x (sights_from bytes list at) ≡ Err record { left = length list.items - at; cause = 0 }
  left_here {A} at x some = go (kind_at list at) refl
    where
      go : (o : Option TokenKind) → kind_at list at ≡ o → ended x (sights_from bytes list at) ≡ Err record { left = length list.items - at; cause = 0 }
      go None e = absurd (some (sym (count_from bytes list at) ∙ ap length (from_end bytes list at e)))
      go (Some kind) e = rw (← count_from bytes list at, from_here bytes list at kind e) refl
