use Rattle.std.proofs.Common.{◌++◌, List, map, ap, ap₂, sym, ◌∙◌}
use Rattle.floyd_ctypes.specs.declared.ctype.CType.{CType}
use Rattle.floyd_tree.specs.Plain.{Plain}
use Rattle.floyd_assert_cells.specs.Types.{sizes_of}
use Rattle.floyd_fieldpath.specs.Nested.{literal}
use Rattle.floyd_fieldpath.specs.NestedClauses.{sizes_of_all}
use Rattle.floyd_fieldpath.proofs.TypeLemmas.{function_literals}
use Rattle.floyd_fieldpath.proofs.literals.+sizes.Goals as goal

pub put_sizes-returns-in_ok-put_sizes-in-Function : goal.put_sizes-returns-in_ok-put_sizes-in-Function
put_sizes-returns-in_ok-put_sizes-in-Function g t c =
    c.in_ok-put_sizes-in-Function.ensures
    ∙ ap₂ (λ (ts : List Plain) (r : CType). ts ++ map literal (sizes_of r))
    (c.in_ok-put_all_sizes-in-Function.ensures ∙ ap (λ (ps : List CType). c.args.sizes.now.items ++ map literal (sizes_of_all ps)) c.as_slice.ensures)
    c.get-in-Function.ensures
    ∙ function_literals c.in-Function.parameters c.in-Function.result c.args.sizes.now.items
    ∙ ap (λ (t : CType). c.args.sizes.now.items ++ map literal (sizes_of t)) (sym c.in-Function.is)
