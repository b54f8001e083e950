-- Shapes that are arrays, and shapes that are none.
use Rattle.std.proofs.Common.{◌≡◌, true, false, List, refl}
use Rattle.floyd_tree_sorts.specs.declared.shape.Shape.{Shape, Pointer, Array, Function}
use Rattle.floyd_tree_sorts.specs.declared.shape.Shape.TheBlock as sh
use Rattle.floyd_goal_plans.specs.Counts.{is_array}
use denote.Hole.Carrier.{hidden}

pub array_is_array : (a : Shape) → is_array (Array a) ≡ true
unfolding sh.shape-the_row-Shape-0 sh.hidden-the_row-Shape-0 hidden
array_is_array a = refl

pub pointer_is_no_array : (a : Shape) → is_array (Pointer a) ≡ false
unfolding sh.shape-the_row-Shape-0 sh.hidden-the_row-Shape-0 hidden
pointer_is_no_array a = refl

pub function_is_no_array : (ps : List Shape) (r : Shape) → is_array (Function ps r) ≡ false
unfolding sh.shape-the_row-Shape-0 sh.hidden-the_row-Shape-0 hidden
function_is_no_array ps r = refl
