-- What is read again and again while the next token is so. What is read next may depend on what was read before it.
use Rattle.std.specs.Prelude.{◌≡◌, ℕ, Bool, true, false, List, [], ◌∷◌, ◌++◌, Ok, Err}
use Rattle.floyd_text.specs.declared.refusal.Refusal.{Refusal}
use Rattle.floyd_lex.specs.Token.{Token, TokenList}
use Rattle.floyd_termread_marks.specs.Marks.{is_next}
use Rattle.floyd_termread_phrases.specs.Reads.{Answer, Reads}

module _ (bytes : List ℕ) (list : TokenList) where
  -- what there is in all, of which so many were read
  pub data Many {A : Type 0} (goes_on_with : Token → Bool) (item : List A → Reads A) : List A → ℕ → Answer (List A) → Type 0 where
    ends : {xs : List A} {at : ℕ} → is_next bytes list goes_on_with at ≡ false → Many goes_on_with item xs at (Ok (xs, at))
    goes_on : {xs : List A} {x : A} {at next : ℕ} {answer : Answer (List A)} → is_next bytes list goes_on_with at ≡ true → item xs at (Ok (x, next)) → Many goes_on_with item (xs ++ x ∷ []) next answer
        → Many goes_on_with item xs at answer
    stops : {xs : List A} {at : ℕ} {refusal : Refusal} → is_next bytes list goes_on_with at ≡ true → item xs at (Err refusal) → Many goes_on_with item xs at (Err refusal)
