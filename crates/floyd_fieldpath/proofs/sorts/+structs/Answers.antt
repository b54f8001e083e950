use Rattle.std.proofs.Common.{◌∙◌, ap}
use Rattle.floyd_tree_values.specs.Defaults.{struct_sort}
use Rattle.floyd_fieldpath.specs.SortClauses.{element_sort, in_lists}
use Rattle.floyd_fieldpath.proofs.SortLemmas.{lists_around}
use Rattle.floyd_fieldpath.proofs.sorts.+structs.Goals as goal

pub type_sort-returns : goal.type_sort-returns
type_sort-returns t c =
    c.in_ok-sorts.ensures
    ∙ ap (in_lists c.args.t.now) (c.in_ok-sort.ensures ∙ ap (element_sort (struct_sort c.args.depth c.args.structs.now)) c.innermost.ensures)
    ∙ lists_around (struct_sort c.args.depth c.args.structs.now) c.args.t.now
