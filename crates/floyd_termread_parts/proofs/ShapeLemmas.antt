-- Which shapes are no structs, as the program takes them apart.
use Rattle.std.proofs.Common.{◌≡◌, false, List, refl}
use Rattle.floyd_tree_sorts.specs.declared.shape.Shape.{Shape, Pointer, Array, Function}
use Rattle.floyd_tree_sorts.specs.declared.shape.Shape.TheBlock.{shape-the_row-Shape-0, hidden-the_row-Shape-0}
use Rattle.floyd_termread_parts.specs.Objects.{is_struct}
use denote.Hole.Carrier.{hidden}

pub pointer_is_none : (a : Shape) → is_struct (Pointer a) ≡ false
unfolding shape-the_row-Shape-0 hidden-the_row-Shape-0 hidden
pointer_is_none a = refl

pub array_is_none : (a : Shape) → is_struct (Array a) ≡ false
unfolding shape-the_row-Shape-0 hidden-the_row-Shape-0 hidden
array_is_none a = refl

pub function_is_none : (parameters : List Shape) (result : Shape) → is_struct (Function parameters result) ≡ false
unfolding shape-the_row-Shape-0 hidden-the_row-Shape-0 hidden
function_is_none parameters result = refl
