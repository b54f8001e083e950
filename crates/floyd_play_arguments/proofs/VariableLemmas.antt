-- Names of variables that are read one after another.
use Rattle.std.proofs.Common.{◌≡◌, ℕ, true, false, List, [], ◌∷◌, ◌++◌, Ok, Err}
use Rattle.floyd_text.specs.declared.refusal.Refusal.{Refusal}
use Rattle.floyd_lex.specs.Token.{TokenList}
use Rattle.floyd_termread_marks.specs.Marks.{is_next}
use Rattle.floyd_termread_phrases.specs.Reads.{Answer}
use Rattle.floyd_play_arguments.specs.Arguments.{Variables, variable, ends, goes_on, stops}
use Rattle.floyd_play_arguments.specs.Numbers.{is_variable}

module _ (bytes : List ℕ) (list : TokenList) (start : ℕ) where
  -- what follows the names so far is what follows the start
  abbrev pub SoFar : List (List ℕ) → ℕ → Type 0
  SoFar xs at = (answer : Answer (List (List ℕ))) → Variables bytes list xs at answer → Variables bytes list [] start answer

  pub one_more : (xs : List (List ℕ)) (at : ℕ) (x : List ℕ) (next : ℕ) → SoFar xs at → is_next bytes list is_variable at ≡ true → variable bytes list at (Ok (x, next)) → SoFar (xs ++ x ∷ []) next
  one_more xs at x next so_far there read answer d = so_far answer (goes_on there read d)

  pub refused_there : (xs : List (List ℕ)) (at : ℕ) (refusal : Refusal) → SoFar xs at → is_next bytes list is_variable at ≡ true → variable bytes list at (Err refusal) → Variables bytes list [] start (Err refusal)
  refused_there xs at refusal so_far there read = so_far (Err refusal) (stops there read)

  pub ended : (xs : List (List ℕ)) (at : ℕ) → SoFar xs at → is_next bytes list is_variable at ≡ false → Variables bytes list [] start (Ok (xs, at))
  ended xs at so_far none = so_far (Ok (xs, at)) (ends none)
