use Rattle.std.proofs.Common.{map, ap, ap₂, sym, ◌∙◌}
use Rattle.floyd_tree_sorts.specs.declared.shape.Shape.{Array, Function}
use Rattle.floyd_assert_cells.specs.Types.{shape_of}
use Rattle.floyd_fieldpath.proofs.TypeLemmas.{array_shape, function_shape}
use Rattle.floyd_fieldpath.proofs.literals.+shape.Goals as goal

pub shape_of-returns-in_ok-new-in-Array : goal.shape_of-returns-in_ok-new-in-Array
shape_of-returns-in_ok-new-in-Array t c =
    ap Array (c.in_ok-new-in-Array.ensures ∙ c.in_ok-element-in-Array.ensures ∙ ap shape_of c.get-in-Array.ensures)
    ∙ sym (array_shape c.in-Array.element c.in-Array.field-1) ∙ ap shape_of (sym c.in-Array.is)

pub shape_of-returns-in_ok-new-in-Function : goal.shape_of-returns-in_ok-new-in-Function
shape_of-returns-in_ok-new-in-Function t c =
    ap₂ Function
    (c.parameters.view_is ∙ c.in_ok-parameters-in-Function.ensures ∙ ap (map shape_of) c.as_slice.ensures)
    (c.in_ok-new-in-Function.ensures ∙ c.in_ok-result-in-Function.ensures ∙ ap shape_of c.get-in-Function.ensures)
    ∙ sym (function_shape c.in-Function.parameters c.in-Function.result) ∙ ap shape_of (sym c.in-Function.is)
