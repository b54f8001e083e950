use Rattle.std.proofs.Common.{◌≡◌, ◌+◌, ◌*◌, ◌<◌, length, drop}
use Rattle.floyd_tree_values.specs.Defaults.{fields_sort, struct_sort}
use Rattle.floyd_fieldpath.proofs.sorts.+structs.Given as goal

abbrev pub decreases-struct_sort : goal.decreases-struct_sort
decreases-struct_sort l = 4 * l.depth

abbrev pub decreases-element_sort : goal.decreases-element_sort
decreases-element_sort l = 4 * l.depth + 1

abbrev pub decreases-type_sort : goal.decreases-type_sort
decreases-type_sort l = 4 * l.depth + 2

abbrev pub decreases-fields_sort : goal.decreases-fields_sort
decreases-fields_sort l = 4 * l.depth + 3

abbrev pub invariant-fields_sort-fields : goal.invariant-fields_sort-fields
invariant-fields_sort-fields l = record {
  within : l.at < length l.fields;
  behind : l.sort ≡ fields_sort (struct_sort l.depth l.structs) (drop l.at l.fields);
}

abbrev pub decreases-fields_sort-fields : goal.decreases-fields_sort-fields
decreases-fields_sort-fields l = l.at
