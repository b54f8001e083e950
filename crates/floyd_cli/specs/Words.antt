-- The words of a command line.
use Rattle.std.specs.Prelude.{ℕ, List, [], ◌∷◌, bytes_eq, codes, if◌then◌else◌, Option, Some, None}

-- After the word `check`: one name.
abbrev pub wrong_after_check : List (List ℕ) → Option ℕ
wrong_after_check [] = Some 2
wrong_after_check (project ∷ []) = None
wrong_after_check (project ∷ word ∷ words) = Some 3

-- The number, from 1, of the first word with which the words so far begin no command line, or one more than there are
-- words where they are too few. None where they are `check` and a name.
abbrev pub wrong_word : List (List ℕ) → Option ℕ
wrong_word [] = Some 1
wrong_word (word ∷ words) = if bytes_eq word (codes "check") then wrong_after_check words else Some 1

-- the name of the project in a command line that is right
abbrev pub project_in : List (List ℕ) → List ℕ
project_in [] = []
project_in (word ∷ []) = []
project_in (word ∷ project ∷ words) = project
