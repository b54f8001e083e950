-- The object of an expression in the part that has it: its value, and the part with another value for it.
use Rattle.std.specs.Prelude.{ℕ, List, length, drop, Result, Ok, Err}
use Rattle.floyd_text.specs.declared.refusal.No.{No}
use Rattle.floyd_ctypes.specs.Structs.{Structs}
use Rattle.floyd_tree.specs.declared.paths.PathStep.{PathStep}
use Rattle.floyd_tree.specs.Plain.{Plain}
use Rattle.floyd_assert_trees.specs.declared.sep.Region.{Region}
use Rattle.floyd_assert_trees.specs.declared.sep.Sep.{Sep}
use Rattle.floyd_assert_trees.specs.declared.sep.Sep.TheVariants.{FieldAt, Padding, Valid, Anything, Predicate}
use Rattle.floyd_fieldpath.specs.Nested.{nested_type}
use Rattle.floyd_fieldpath.specs.Projections.{project}
use Rattle.floyd_fieldpath.specs.Updates.{update}
use Rattle.floyd_fieldpath.specs.Written.{on_ok}
use Rattle.floyd_goal_parts.specs.Sources.{part_at}
use Rattle.floyd_symexpr_paths.specs.Places.{no_part}

-- where a part lies, and its value
abbrev pub region_of : Sep → Result (Region × Plain) No
region_of (FieldAt region value) = Ok (region, value)
region_of (Padding region) = Err no_part
region_of (Valid address) = Err no_part
region_of Anything = Err no_part
region_of (Predicate name terms) = Err no_part

abbrev pub region_at : List Sep → ℕ → Result (Region × Plain) No
region_at parts k = on_ok (part_at parts k) region_of

-- the steps of an object's path beyond the part's own, which it begins with
abbrev pub steps_inside : List PathStep → Region → List PathStep
steps_inside path region = drop (length region.path) path

-- the value of the object at that path
abbrev pub item_in : Structs → List PathStep → Region × Plain → Result Plain No
item_in structs path part =
    on_ok (nested_type structs part.0.ty part.0.path) (λ t. project structs t (steps_inside path part.0) part.1)

-- the part with another value for that object
abbrev pub part_with : Structs → List PathStep → Plain → Region × Plain → Result Sep No
part_with structs path v part =
    on_ok (nested_type structs part.0.ty part.0.path) (λ t.
    on_ok (update structs t (steps_inside path part.0) part.1 v) (λ whole. Ok (FieldAt part.0 whole)))
