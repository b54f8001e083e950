-- The sort of a term, where it is well sorted.
use Rattle.std.specs.Prelude.{Option, Some, None, option_and_then, List, [], ◌∷◌}
use Rattle.floyd_tree_sorts.specs.declared.sorts.Sort.{Sort}
use Rattle.floyd_tree_sorts.specs.Table.{sort_at}
use Rattle.floyd_tree.specs.Plain.{Plain, Plains, At, Done, More}

abbrev pub with_first : Option Sort → Option (List Sort) → Option (List Sort)
with_first (Some s) (Some more) = Some (s ∷ more)
with_first (Some s) None = None
with_first None more = None

-- the sort of a term, where it is well sorted
abbrev mutual
  pub sort_of : Plain → Option Sort
  sort_of (At head kids) = option_and_then (sort_at head) (sorts_of kids)

  pub sorts_of : Plains → Option (List Sort)
  sorts_of Done = Some []
  sorts_of (More t ts) = with_first (sort_of t) (sorts_of ts)
