-- Parts that are whole arrays, and what the rows on them write.
use Rattle.std.specs.Prelude.{Bool, nat_eq, if◌then◌else◌, List, [], ◌∷◌, length, Option, Some, None, Result, Ok, Err}
use Rattle.floyd_text.specs.declared.refusal.No.{No}
use Rattle.floyd_ctypes.specs.Structs.{Structs}
use Rattle.floyd_tree_sorts.specs.declared.operators.Operator.TheVariants.{Sublist}
use Rattle.floyd_tree.specs.declared.paths.PathStep.TheVariants.{Subscript}
use Rattle.floyd_tree.specs.Plain.{Plain}
use Rattle.floyd_tree.specs.Types.{SizedType}
use Rattle.floyd_assert_trees.specs.declared.sep.Region.{Region}
use Rattle.floyd_assert_trees.specs.declared.sep.Sep.{Sep}
use Rattle.floyd_assert_trees.specs.declared.sep.Sep.TheVariants.{FieldAt, Padding, Valid, Anything, Predicate}
use Rattle.floyd_fieldpath.specs.Addresses.{address}
use Rattle.floyd_fieldpath.specs.Updates.{three}
use Rattle.floyd_fieldpath.specs.Written.{written}
use Rattle.floyd_goal.specs.Goals.{wrong_goal}
use Rattle.floyd_goal_plans.specs.Counts.{count_of}
use Rattle.floyd_arrays.specs.declared.arrays.ArrayPart.{ArrayPart}

abbrev pub array_part : Region → Plain → Plain → Result ArrayPart No
array_part region value n = Ok (record { region = region; count = n; value = value })

abbrev pub array_with : Region → Plain → Option Plain → Result ArrayPart No
array_with region value None = Err wrong_goal
array_with region value (Some n) = array_part region value n

-- the region has the empty path
abbrev pub is_whole : Region → Bool
is_whole region = nat_eq (length region.path) 0

abbrev pub array_at : Region → Plain → Result ArrayPart No
array_at region value = if is_whole region then array_with region value (count_of region.ty) else Err wrong_goal

-- `data_at(sh, array(U, n), v, a)`
abbrev pub array_of : Sep → Result ArrayPart No
array_of (FieldAt region value) = array_at region value
array_of (Padding region) = Err wrong_goal
array_of (Valid address) = Err wrong_goal
array_of Anything = Err wrong_goal
array_of (Predicate name terms) = Err wrong_goal

-- with another size of the outermost array, which stands first
abbrev pub with_first : Plain → List Plain → List Plain
with_first n [] = []
with_first n (size ∷ sizes) = n ∷ sizes

-- an array of so many of the same elements
abbrev pub resized : SizedType → Plain → SizedType
resized t n = record { shape = t.shape; sizes = with_first n t.sizes }

-- `data_at(sh, array(U, n), v, root)`
abbrev pub piece : ArrayPart → Plain → Plain → Plain → Sep
piece a n root v = FieldAt (record { share = a.region.share; ty = resized a.region.ty n; path = []; root = root }) v

abbrev pub piece_at : ArrayPart → Plain → Plain → Plain → Result Sep No
piece_at a n root v = Ok (piece a n root v)

-- the address of the element at that subscript
abbrev pub behind : Structs → ArrayPart → Plain → Result Plain No
behind structs a m = address structs a.region.ty (Subscript m ∷ []) a.region.root

-- the elements of a list from one place up to another
abbrev pub slice : Plain → Plain → Plain → Result Plain No
slice low high list = written (three Sublist low high list)
