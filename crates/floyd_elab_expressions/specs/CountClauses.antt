-- How many there are of each name, as it is kept beside the names.
use Rattle.std.specs.Prelude.{◌≡◌, ℕ, List, Option, Some, None, count_by, bytes_eq, cond}
use Rattle.std.specs.Map.{lookup}

abbrev pub number_in : Option ℕ → ℕ
number_in None = 0
number_in (Some n) = n

-- each name is counted
abbrev pub AreCounted : List (List ℕ × ℕ) → List (List ℕ) → Type 0
AreCounted counts names = (x : List ℕ) → number_in (lookup (bytes_eq x) counts) ≡ count_by (bytes_eq x) names

-- the count of one name is put
abbrev pub PutsCount : List (List ℕ × ℕ) → List ℕ → ℕ → List (List ℕ × ℕ) → Type 0
PutsCount before x n now = (q : List ℕ) → lookup (bytes_eq q) now ≡ cond (bytes_eq x q) (Some n) (lookup (bytes_eq q) before)
