use Rattle.std.proofs.Common.{◌∙◌, ap, sym}
use Rattle.floyd_fieldpath.specs.SortClauses.{innermost}
use Rattle.floyd_fieldpath.proofs.SortLemmas.{innermost_array}
use Rattle.floyd_fieldpath.proofs.sorts.+innermost.Goals as goal

pub returns-in-Array : goal.returns-in-Array
returns-in-Array t c =
    c.innermost.ensures ∙ ap innermost c.get.ensures
    ∙ sym (innermost_array c.in-Array.element c.in-Array.field-1) ∙ ap innermost (sym c.in-Array.is)
