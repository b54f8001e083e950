-- What the parts of the walk through a type answer.
use Rattle.std.specs.Prelude.{ℕ, List, Option, Some, None, option_map}
use Rattle.floyd_ctypes.specs.declared.ctype.CType.{CType, Int, Pointer', Array', Struct, more_of-CType, end_of-CType}
use Rattle.floyd_tree_sorts.specs.declared.sorts.Sort.{Sort, Val}
use Rattle.floyd_tree_sorts.specs.Sorts.{list_sort}

-- the type of the elements of the elements, and so on, which is no array
abbrev pub innermost : CType → CType
innermost (Array' p (more_of-CType t end_of-CType) n) = innermost t
innermost t = t

-- the sort of lists of lists, one for each array
abbrev pub in_lists : CType → Option Sort → Option Sort
in_lists (Array' p (more_of-CType t end_of-CType) n) s = option_map list_sort (in_lists t s)
in_lists t s = s

-- the sort of a type that is no array, where `of` gives those of the structs
abbrev pub element_sort : (List ℕ → Option Sort) → CType → Option Sort
element_sort of (Int kind) = Some Val
element_sort of (Pointer' p to) = Some Val
element_sort of (Struct tag) = of tag
element_sort of t = None
