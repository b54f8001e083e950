-- Whether terms are of the sorts that a row writes.
use Rattle.std.specs.Prelude.{Bool, false, Option, Some, None, List}
use Rattle.floyd_tree_sorts.specs.declared.operators.RowSort.{RowSort}
use Rattle.floyd_tree_sorts.specs.declared.sorts.Sort.{Sort}
use Rattle.floyd_listlaw.specs.Instances.{fit_all}

-- whether these are the sorts of terms, where they have sorts
abbrev pub fit_with : Sort → List RowSort → Option (List Sort) → Bool
fit_with s forms (Some sorts) = fit_all s forms sorts
fit_with s forms None = false
