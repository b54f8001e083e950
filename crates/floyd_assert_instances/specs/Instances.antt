-- Terms for the variables of an item: as many as these, each of its variable's sort.
use Rattle.std.specs.Prelude.{ℕ, Bool, true, false, ◌&&◌, if◌then◌else◌, List, [], ◌∷◌, length, ◌==◌, Option, Some, None, Result, Ok, Err}
use Rattle.floyd_text.specs.declared.code.Code.TheVariants as c
use Rattle.floyd_text.specs.declared.refusal.No.{No}
use Rattle.floyd_text.specs.declared.refusal.Shown.TheVariants.{Count, Nothing}
use Rattle.floyd_tree_sorts.specs.declared.sorts.Sort.{Sort}
use Rattle.floyd_tree_sorts.specs.Sorts.{same_sort}
use Rattle.floyd_tree.specs.Plain.{Plain}
use Rattle.floyd_tree.specs.WellSorted.{sort_of}
use Rattle.floyd_assert_trees.specs.declared.binder.Binder.{Binder}

abbrev pub wrong_count : ℕ → No
wrong_count n = record { code = c.WithMismatch; shown = Count n }

abbrev pub ill_sorted : No
ill_sorted = record { code = c.IllSorted; shown = Nothing }

abbrev pub is_sort : Sort → Option Sort → Bool
is_sort s None = false
is_sort s (Some r) = same_sort r s

-- each term has the sort of its variable
abbrev pub have_sorts : List Binder → List Plain → Bool
have_sorts [] terms = true
have_sorts (b ∷ bs) [] = true
have_sorts (b ∷ bs) (t ∷ ts) = is_sort b.sort (sort_of t) && have_sorts bs ts

-- each variable with its term
abbrev pub pairs : List Binder → List Plain → List (List ℕ × Plain)
pairs [] terms = []
pairs (b ∷ bs) [] = []
pairs (b ∷ bs) (t ∷ ts) = (b.name, t) ∷ pairs bs ts

-- the terms are taken for the variables, unless their number differs, or else a sort
abbrev pub taken : List Binder → List Plain → Result (List (List ℕ × Plain)) No
taken binders terms =
    if length terms == length binders
    then if have_sorts binders terms then Ok (pairs binders terms) else Err ill_sorted
    else Err (wrong_count (length terms))
