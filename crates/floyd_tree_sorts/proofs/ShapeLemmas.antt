-- The number of arrays of a shape, as the program takes shapes apart.
use Rattle.std.proofs.Common.{◌≡◌, ◌+◌, true, false, List, refl, ap, ◌∙◌}
use Rattle.floyd_tree_sorts.specs.declared.shape.Shape.{Shape, Pointer, Array, Function, Row_of-Shape, end_of-Shape, more_of-Shape}
use Rattle.floyd_tree_sorts.specs.declared.shape.Shape.TheBlock.{items-the_row-Shape, shape-the_row-Shape-0, hidden-the_row-Shape-0, hidden-the_row-Shape-1, items_hidden-the_row-Shape-1}
use Rattle.floyd_tree_sorts.specs.Rows.{is_scalar}
use Rattle.floyd_tree_sorts.specs.ShapeClauses.{arrays_of}
use Rattle.floyd_tree_sorts.specs.Table.{arrays, arrays_in}
use denote.Hole.Carrier.{hidden}

pub arrays_pointer : (a : Shape) → arrays (Pointer a) ≡ arrays a
unfolding shape-the_row-Shape-0 hidden-the_row-Shape-0 hidden
arrays_pointer a = refl

pub arrays_array : (a : Shape) → arrays (Array a) ≡ arrays a + 1
unfolding shape-the_row-Shape-0 hidden-the_row-Shape-0 hidden
arrays_array a = refl

pub pointer_is_scalar : (a : Shape) → is_scalar (Pointer a) ≡ true
unfolding shape-the_row-Shape-0 hidden-the_row-Shape-0 hidden
pointer_is_scalar a = refl

pub array_is_not : (a : Shape) → is_scalar (Array a) ≡ false
unfolding shape-the_row-Shape-0 hidden-the_row-Shape-0 hidden
array_is_not a = refl

pub function_is_not : (parameters : List Shape) (result : Shape) → is_scalar (Function parameters result) ≡ false
unfolding shape-the_row-Shape-0 hidden-the_row-Shape-0 hidden
function_is_not parameters result = refl

arrays_in_items : {n : _} (row : Row_of-Shape n) → arrays_in row ≡ arrays_of (items-the_row-Shape n row)
arrays_in_items end_of-Shape = refl
arrays_in_items (more_of-Shape a rest) = ap (λ n. arrays a + n) (arrays_in_items rest)

pub arrays_function : (parameters : List Shape) (result : Shape) → arrays (Function parameters result) ≡ arrays_of parameters + arrays result
unfolding shape-the_row-Shape-0 hidden-the_row-Shape-0 hidden
arrays_function parameters result =
    ap (λ n. n + arrays result) (arrays_in_items (hidden-the_row-Shape-1 parameters) ∙ ap arrays_of (items_hidden-the_row-Shape-1 parameters))
