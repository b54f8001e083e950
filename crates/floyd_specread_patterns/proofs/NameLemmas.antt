-- A name that is none of the others, in the next token.
use Rattle.std.proofs.Common.{◌≡◌, ℕ, List, [], ◌∷◌, refl}
use Rattle.floyd_lex.specs.Token.{Token}
use Rattle.floyd_termread_tokens.specs.Tokens.{free_name}
use Rattle.floyd_termread_marks.specs.Marks.{found_in}
use Rattle.floyd_specread_patterns.specs.Patterns.{new_name, unless_taken}

pub found_new : (names : List (List ℕ)) (ts : List Token) → unless_taken names (found_in free_name ts) ≡ found_in (new_name names) ts
found_new names [] = refl
found_new names (t ∷ ts) = refl
