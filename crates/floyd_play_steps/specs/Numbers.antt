-- The numbers of goals.
use Rattle.std.specs.Prelude.{ℕ, zero, suc, ◌+◌, List, [], ◌∷◌}

-- so many numbers that follow a number
abbrev pub numbers_behind : ℕ → ℕ → List ℕ
numbers_behind n zero = []
numbers_behind n (suc k) = (n + 1) ∷ numbers_behind (n + 1) k

-- 0 where there is none
abbrev pub first_number : List ℕ → ℕ
first_number [] = 0
first_number (n ∷ ns) = n
