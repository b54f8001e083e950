-- What a place wants: which sorts it takes, and which sort is expected there. An expected sort says only what `nil` and
-- `Leaf` are; it comes from above, and from the left in the same application. One that does not fit is none.
use Rattle.std.specs.Prelude.{Bool, true, false, if◌then◌else◌, is_some, Option, Some, None, option_map, ℤ, pos}
use Rattle.std.specs.Option.{option_or}
use Rattle.std.specs.Ordering.{int_eq}
use Rattle.floyd_tree_sorts.specs.declared.heads.Head.{Head}
use Rattle.floyd_tree_sorts.specs.declared.heads.Head.TheVariants.{Literal}
use Rattle.floyd_tree_sorts.specs.declared.heads.Width.{Width}
use Rattle.floyd_tree_sorts.specs.declared.heads.Width.TheVariants.{Bits8, Bits16, Bits32, Bits64}
use Rattle.floyd_tree_sorts.specs.declared.operators.RowSort.{RowSort}
use Rattle.floyd_tree_sorts.specs.declared.operators.RowSort.TheVariants as r
use Rattle.floyd_tree_sorts.specs.declared.sorts.Sort.{Sort, Z, Val}
use Rattle.floyd_tree_sorts.specs.Sorts.{same_sort, list_sort, tree_sort, item_sort, node_sort, first_sort, second_sort}
use Rattle.floyd_tree.specs.Plain.{Plain, head_of}
use Rattle.floyd_tree.specs.WellSorted.{sort_of}
use Rattle.floyd_termread_wants.specs.declared.wants.Wanted.{Wanted}
use Rattle.floyd_termread_wants.specs.declared.wants.Wanted.TheVariants as w
use Rattle.floyd_termread_wants.specs.declared.wants.Known.{Known}

-- the width that a literal is
abbrev pub width_at : ℤ → Option Width
width_at z =
    if int_eq z (pos 8) then Some Bits8
    else if int_eq z (pos 16) then Some Bits16
    else if int_eq z (pos 32) then Some Bits32
    else if int_eq z (pos 64) then Some Bits64
    else None

abbrev pub width_of : Head → Option Width
width_of (Literal z) = width_at z
width_of head = None

abbrev pub is_list : Sort → Bool
is_list s = is_some (item_sort s)

abbrev pub is_tree : Sort → Bool
is_tree s = is_some (node_sort s)

abbrev pub is_pair : Sort → Bool
is_pair s = is_some (first_sort s)

-- whether a place takes a term of this head and sort
abbrev pub takes_sorted : Wanted → Head → Sort → Bool
takes_sorted (w.Any expected) head s = true
takes_sorted (w.This wanted) head s = same_sort wanted s
takes_sorted (w.List expected) head s = is_list s
takes_sorted (w.Tree expected) head s = is_tree s
takes_sorted w.Pair head s = is_pair s
takes_sorted w.Width head s = is_some (width_of head)

abbrev pub takes_by : Wanted → Head → Option Sort → Bool
takes_by wanted head None = false
takes_by wanted head (Some s) = takes_sorted wanted head s

abbrev pub takes : Wanted → Plain → Bool
takes wanted t = takes_by wanted (head_of t) (sort_of t)

-- the sort that is expected at a place
abbrev pub expected_at : Wanted → Option Sort
expected_at (w.Any expected) = expected
expected_at (w.This wanted) = Some wanted
expected_at (w.List expected) = expected
expected_at (w.Tree expected) = expected
expected_at w.Pair = None
expected_at w.Width = Some Z

-- What S and T of a row of the sort table stand for, where a term of this sort stands in a place that is written so.
abbrev pub s_part : RowSort → Sort → Option Sort
s_part r.S a = Some a
s_part r.ListS a = item_sort a
s_part r.TreeS a = node_sort a
s_part r.ProdST a = first_sort a
s_part form a = None

abbrev pub t_part : RowSort → Sort → Option Sort
t_part r.T a = Some a
t_part r.ProdST a = second_sort a
t_part form a = None

abbrev pub nothing_known : Known
nothing_known = record { s = None; t = None }

-- what is known stays so
abbrev pub known_or : Option Sort → Option Sort → Option Sort
known_or known found = option_or known found

abbrev pub learn : Known → RowSort → Option Sort → Known
learn known form None = known
learn known form (Some a) = record { s = known_or known.s (s_part form a); t = known_or known.t (t_part form a) }

-- what is known from above, where an application gives a sort that is written so
abbrev pub from_above : RowSort → Wanted → Known
from_above gives wanted = learn nothing_known gives (expected_at wanted)

-- what a place wants that is written with S or T, by what the arguments before it say, and else by what is expected
abbrev pub this_or_any : Option Sort → Option Sort → Wanted
this_or_any (Some s) above = w.This s
this_or_any None above = w.Any above

abbrev pub list_option : Option Sort → Option Sort
list_option s = option_map list_sort s

abbrev pub tree_option : Option Sort → Option Sort
tree_option s = option_map tree_sort s

abbrev pub list_wanted : Option Sort → Option Sort → Wanted
list_wanted (Some s) above = w.This (list_sort s)
list_wanted None above = w.List (list_option above)

abbrev pub tree_wanted : Option Sort → Option Sort → Wanted
tree_wanted (Some s) above = w.This (tree_sort s)
tree_wanted None above = w.Tree (tree_option above)

abbrev pub wanted_by : Known → Known → RowSort → Wanted
wanted_by known above r.Z = w.This Z
wanted_by known above r.Val = w.This Val
wanted_by known above r.S = this_or_any known.s above.s
wanted_by known above r.T = this_or_any known.t above.t
wanted_by known above r.ListZ = w.This (list_sort Z)
wanted_by known above r.ListVal = w.This (list_sort Val)
wanted_by known above r.ListS = list_wanted known.s above.s
wanted_by known above r.TreeS = tree_wanted known.s above.s
wanted_by known above r.ProdST = w.Pair
