-- Types of arrays.
use Rattle.std.specs.Prelude.{Bool, true, false, if◌then◌else◌, slice_get, Option, None}
use Rattle.floyd_tree_sorts.specs.declared.shape.Shape.{Shape, Array'}
use Rattle.floyd_tree.specs.Plain.{Plain}
use Rattle.floyd_tree.specs.Types.{SizedType}

abbrev pub is_array : Shape → Bool
is_array (Array' p element) = true
is_array shape = false

-- the number of elements, of an array: the size of the outermost one stands first
abbrev pub count_of : SizedType → Option Plain
count_of t = if is_array t.shape then slice_get t.sizes 0 else None
