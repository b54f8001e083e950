-- Operators on lists. Places count from 0.
use Rattle.std.specs.Prelude.{ℕ, List, [], ◌∷◌, get_or, set, take, drop, replicate, ℤ, pos, negsuc, ◌+ℤ◌}
use Rattle.floyd_tree_values.specs.Data.{Datum, number_in}

-- z, or 0 where z is negative
abbrev pub at_least_zero : ℤ → ℕ
at_least_zero (pos n) = n
at_least_zero (negsuc n) = 0

-- the item at that place, and the default out of range
abbrev pub nth : Datum → ℤ → List Datum → Datum
nth default (pos i) ds = get_or ds i default
nth default (negsuc i) ds = default

-- with d at that place; out of range nothing is changed
abbrev pub upd : ℤ → Datum → List Datum → List Datum
upd (pos i) d ds = set ds i d
upd (negsuc i) d ds = ds

-- the items at the places p with lo <= p < hi
abbrev pub sublist : ℤ → ℤ → List Datum → List Datum
sublist lo hi ds = drop (at_least_zero lo) (take (at_least_zero hi) ds)

-- n times d; none where n is negative
abbrev pub repeat : Datum → ℤ → List Datum
repeat d n = replicate (at_least_zero n) d

abbrev pub sum : List Datum → ℤ
sum [] = pos 0
sum (d ∷ ds) = number_in d +ℤ sum ds
