-- A list that is read item by item.
use Rattle.std.proofs.Common.{◌≡◌, ℕ, ◌+◌, true, false, List, [], ◌∷◌, ◌++◌, Ok, Err}
use Rattle.floyd_text.specs.declared.refusal.Refusal.{Refusal}
use Rattle.floyd_lex.specs.declared.kinds.Punctuator.{Punctuator}
use Rattle.floyd_lex.specs.declared.kinds.Punctuator.TheVariants as p
use Rattle.floyd_lex.specs.Token.{TokenList}
use Rattle.floyd_termread_tokens.specs.Tokens.{is_mark}
use Rattle.floyd_termread_phrases.specs.Reads.{Answer, Reads}
use Rattle.floyd_termread_marks.specs.Marks.{is_next}
use Rattle.floyd_termread_marks.specs.Lists.{Listed, next_item, ends, goes_on, stops}

module _ {A : Type 0} (bytes : List ℕ) (list : TokenList) (depth : ℕ) (between : Punctuator) (item : List A → Reads A) (start : ℕ) where
  -- what follows the items so far is what the list has from its start on
  abbrev pub SoFar : List A → ℕ → Type 0
  SoFar xs at = (answer : Answer (List A)) → Listed bytes list depth between item xs at answer → Listed bytes list depth between item [] start answer

  pub one_more : (xs : List A) (at : ℕ) (x : A) (next : ℕ) → SoFar xs at → is_next bytes list (is_mark p.CloseParen) at ≡ false → next_item bytes list depth between item xs at (Ok (x, next)) → SoFar (xs ++ x ∷ []) next
  one_more xs at x next so_far open_still read answer d = so_far answer (goes_on open_still read d)

  pub refused_there : (xs : List A) (at : ℕ) (refusal : Refusal) → SoFar xs at → is_next bytes list (is_mark p.CloseParen) at ≡ false → next_item bytes list depth between item xs at (Err refusal)
      → Listed bytes list depth between item [] start (Err refusal)
  refused_there xs at refusal so_far open_still read = so_far (Err refusal) (stops open_still read)

  pub ended : (xs : List A) (at : ℕ) → SoFar xs at → is_next bytes list (is_mark p.CloseParen) at ≡ true → Listed bytes list depth between item [] start (Ok (xs, at + 1))
  ended xs at so_far closed = so_far (Ok (xs, at + 1)) (ends closed)
