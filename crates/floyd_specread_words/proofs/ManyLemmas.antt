-- What is read again and again, behind what was read first.
use Rattle.std.proofs.Common.{◌≡◌, ℕ, Bool, true, false, List, [], ◌∷◌, ◌++◌, Ok, Err}
use Rattle.floyd_text.specs.declared.refusal.Refusal.{Refusal}
use Rattle.floyd_lex.specs.Token.{Token, TokenList}
use Rattle.floyd_termread_marks.specs.Marks.{is_next}
use Rattle.floyd_termread_phrases.specs.Reads.{Answer, Reads}
use Rattle.floyd_specread_words.specs.Many.{Many, ends, goes_on, stops}

module _ {A : Type 0} (bytes : List ℕ) (list : TokenList) (more : Token → Bool) (item : List A → Reads A) (first : List A) (start : ℕ) where
  -- what follows what was read so far is what follows the first
  abbrev pub SoFar : List A → ℕ → Type 0
  SoFar xs at = (answer : Answer (List A)) → Many bytes list more item xs at answer → Many bytes list more item first start answer

  pub one_more : (xs : List A) (at : ℕ) (x : A) (next : ℕ) → SoFar xs at → is_next bytes list more at ≡ true → item xs at (Ok (x, next)) → SoFar (xs ++ x ∷ []) next
  one_more xs at x next so_far there read answer d = so_far answer (goes_on there read d)

  pub refused_there : (xs : List A) (at : ℕ) (refusal : Refusal) → SoFar xs at → is_next bytes list more at ≡ true → item xs at (Err refusal) → Many bytes list more item first start (Err refusal)
  refused_there xs at refusal so_far there read = so_far (Err refusal) (stops there read)

  pub ended : (xs : List A) (at : ℕ) → SoFar xs at → is_next bytes list more at ≡ false → Many bytes list more item first start (Ok (xs, at))
  ended xs at so_far over = so_far (Ok (xs, at)) (ends over)
