-- `reroot k` makes a part one that begins at its own address.
use Rattle.std.specs.Prelude.{List, [], ◌∷◌, Result, Ok, Err}
use Rattle.floyd_text.specs.declared.refusal.No.{No}
use Rattle.floyd_ctypes.specs.Structs.{Structs}
use Rattle.floyd_tree.specs.Plain.{Plain}
use Rattle.floyd_tree.specs.Types.{SizedType}
use Rattle.floyd_assert_trees.specs.declared.sep.Region.{Region}
use Rattle.floyd_assert_trees.specs.declared.sep.Sep.{Sep}
use Rattle.floyd_assert_trees.specs.declared.sep.Sep.TheVariants.{FieldAt, Padding, Valid, Anything, Predicate}
use Rattle.floyd_fieldpath.specs.Addresses.{address}
use Rattle.floyd_fieldpath.specs.Nested.{nested_type}
use Rattle.floyd_fieldpath.specs.Written.{on_ok}
use Rattle.floyd_goal_trees.specs.declared.args.Args.{Args}
use Rattle.floyd_goal_trees.specs.declared.goal.Goal.{Goal}
use Rattle.floyd_goal.specs.Goals.{wrong_goal}
use Rattle.floyd_goal_parts.specs.Rows.{Answer, InPlace}
use Rattle.floyd_goal_parts.specs.Sources.{part_number}

-- an object of that type at that address, with the same share
abbrev pub object_at : Plain → SizedType → Plain → Region
object_at share t root = record { share = share; ty = t; path = []; root = root }

abbrev pub moved_to : Region → SizedType → Plain → Plain → Result (List Sep) No
moved_to region t value root = Ok (FieldAt (object_at region.share t root) value ∷ [])

abbrev pub of_type : Structs → Region → Plain → SizedType → Result (List Sep) No
of_type structs region value t = on_ok (address structs region.ty region.path region.root) (moved_to region t value)

abbrev pub rerooted : Structs → Sep → Result (List Sep) No
rerooted structs (FieldAt region value) = on_ok (nested_type structs region.ty region.path) (of_type structs region value)
rerooted structs (Padding region) = Err wrong_goal
rerooted structs (Valid address) = Err wrong_goal
rerooted structs Anything = Err wrong_goal
rerooted structs (Predicate name terms) = Err wrong_goal

abbrev pub Row : Structs → Goal → Args → Answer → Type 0
Row structs goal args = InPlace goal (part_number args.target) (rerooted structs)
