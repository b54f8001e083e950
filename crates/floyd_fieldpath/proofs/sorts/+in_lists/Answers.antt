use Rattle.std.proofs.Common.{◌∙◌, ap, sym}
use Rattle.std.specs.Prelude.{option_map}
use Rattle.floyd_ctypes.specs.declared.ctype.CType.{CType}
use Rattle.floyd_tree_sorts.specs.Sorts.{list_sort}
use Rattle.floyd_fieldpath.specs.SortClauses.{in_lists}
use Rattle.floyd_fieldpath.proofs.SortLemmas.{in_lists_array}
use Rattle.floyd_fieldpath.proofs.sorts.+in_lists.Goals as goal

pub returns-in_ok-lists_of-in-Array : goal.returns-in_ok-lists_of-in-Array
returns-in_ok-lists_of-in-Array t c =
    c.in_ok-lists_of-in-Array.ensures
    ∙ ap (option_map list_sort) (c.in_ok-sort-in-Array.ensures ∙ ap (λ (u : CType). in_lists u c.args.sort) c.get.ensures)
    ∙ sym (in_lists_array c.in-Array.element c.in-Array.field-1 c.args.sort) ∙ ap (λ (u : CType). in_lists u c.args.sort) (sym c.in-Array.is)
