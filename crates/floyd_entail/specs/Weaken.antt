-- `weaken k` makes the value of a part the default of its type.
use Rattle.std.specs.Prelude.{List, [], ◌∷◌, Result, Ok, Err}
use Rattle.floyd_text.specs.declared.refusal.No.{No}
use Rattle.floyd_ctypes.specs.Structs.{Structs}
use Rattle.floyd_tree.specs.Plain.{Plain}
use Rattle.floyd_assert_trees.specs.declared.sep.Region.{Region}
use Rattle.floyd_assert_trees.specs.declared.sep.Sep.{Sep}
use Rattle.floyd_assert_trees.specs.declared.sep.Sep.TheVariants.{FieldAt, Padding, Valid, Anything, Predicate}
use Rattle.floyd_fieldpath.specs.Nested.{nested_type}
use Rattle.floyd_fieldpath.specs.Projections.{default_of}
use Rattle.floyd_fieldpath.specs.Written.{on_ok}
use Rattle.floyd_goal_trees.specs.declared.args.Args.{Args}
use Rattle.floyd_goal_trees.specs.declared.goal.Goal.{Goal}
use Rattle.floyd_goal.specs.Goals.{wrong_goal}
use Rattle.floyd_goal_parts.specs.Rows.{Answer, InPlace}
use Rattle.floyd_goal_parts.specs.Sources.{part_number}

-- the default of the type at a region's path
abbrev pub default_at : Structs → Region → Result Plain No
default_at structs region = on_ok (nested_type structs region.ty region.path) (default_of structs)

abbrev pub with_value : Region → Plain → Result (List Sep) No
with_value region value = Ok (FieldAt region value ∷ [])

abbrev pub weakened : Structs → Sep → Result (List Sep) No
weakened structs (FieldAt region value) = on_ok (default_at structs region) (with_value region)
weakened structs (Padding region) = Err wrong_goal
weakened structs (Valid address) = Err wrong_goal
weakened structs Anything = Err wrong_goal
weakened structs (Predicate name terms) = Err wrong_goal

abbrev pub Row : Structs → Goal → Args → Answer → Type 0
Row structs goal args = InPlace goal (part_number args.target) (weakened structs)
