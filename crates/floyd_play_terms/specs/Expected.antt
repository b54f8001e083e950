-- The sort that is expected of a term in a list, by the terms before it. A term of which none is expected may have any.
use Rattle.std.specs.Prelude.{List, ◌∷◌, length, slice_get, Option, Some, None, option_map, option_and_then}
use Rattle.std.specs.Option.{option_or}
use Rattle.floyd_tree_sorts.specs.declared.operators.RowSort.{RowSort}
use Rattle.floyd_tree_sorts.specs.declared.operators.RowSort.TheVariants as r
use Rattle.floyd_tree_sorts.specs.declared.sorts.Sort.{Sort, Z, Val}
use Rattle.floyd_tree_sorts.specs.Sorts.{item_sort, list_sort}
use Rattle.floyd_tree.specs.Plain.{Plain}
use Rattle.floyd_tree.specs.WellSorted.{sort_of}
use Rattle.floyd_assert_trees.specs.declared.binder.Binder.{Binder}
use Rattle.floyd_play_terms.specs.declared.expected.Expected.{Expected}
use Rattle.floyd_play_terms.specs.declared.expected.Expected.TheVariants.{Binders, Forms}

-- that of the binder with the same number; none is expected beyond the last
abbrev pub by_binders : List Binder → List Plain → Option Sort
by_binders bs ts = option_map (λ b. b.sort) (slice_get bs (length ts))

-- what an argument of this sort fixes for S, where it has the form
abbrev pub fixed_by : RowSort → Option Sort → Option Sort
fixed_by r.S s = s
fixed_by r.ListS s = option_and_then item_sort s
fixed_by form s = None

-- what the first argument fixes that fixes anything
abbrev pub fixed : List RowSort → List Plain → Option Sort
fixed (p ∷ ps) (t ∷ ts) = option_or (fixed_by p (sort_of t)) (fixed ps ts)
fixed ps ts = None

-- what a law writes, where S may be known
abbrev pub written : Option Sort → RowSort → Option Sort
written s r.Z = Some Z
written s r.Val = Some Val
written s r.ListZ = Some (list_sort Z)
written s r.ListVal = Some (list_sort Val)
written s r.S = s
written s r.ListS = option_map list_sort s
written s form = None

-- that of the argument of a law
abbrev pub by_forms : List RowSort → List Plain → Option Sort
by_forms ps ts = option_and_then (written (fixed ps ts)) (slice_get ps (length ts))

abbrev pub expected : Expected → List Plain → Option Sort
expected (Binders bs) ts = by_binders bs.now ts
expected (Forms ps) ts = by_forms ps.now ts
