-- Parts that are structs, the regions of their fields, and their padding.
use Rattle.std.specs.Prelude.{ℕ, ◌+◌, Bool, not, nat_eq, unwrap_or, List, [], ◌∷◌, ◌++◌, if◌then◌else◌, Result, Ok, Err}
use Rattle.floyd_text.specs.declared.refusal.No.{No}
use Rattle.floyd_ctypes.specs.declared.ctype.CType as c
use Rattle.floyd_ctypes.specs.declared.field.Field as d
use Rattle.floyd_ctypes.specs.Layout.{size}
use Rattle.floyd_ctypes.specs.Structs.{Structs}
use Rattle.floyd_tree_sorts.specs.declared.shape.Shape.{Shape, Struct}
use Rattle.floyd_tree.specs.declared.paths.PathStep.TheVariants.{Field}
use Rattle.floyd_tree.specs.Plain.{Plain}
use Rattle.floyd_tree.specs.Types.{SizedType}
use Rattle.floyd_assert_trees.specs.declared.sep.Region.{Region}
use Rattle.floyd_assert_trees.specs.declared.sep.Sep.{Sep}
use Rattle.floyd_assert_trees.specs.declared.sep.Sep.TheVariants.{FieldAt, Padding, Valid, Anything, Predicate}
use Rattle.floyd_fieldpath.specs.Nested.{nested_type}
use Rattle.floyd_fieldpath.specs.Written.{on_ok}
use Rattle.floyd_goal.specs.Goals.{wrong_goal}
use Rattle.floyd_arrays_structs.specs.declared.structs.StructPart.{StructPart}

abbrev pub struct_part : Region → Plain → SizedType → List ℕ → Result StructPart No
struct_part region value t tag = Ok (record { region = region; value = value; ty = t; tag = tag })

abbrev pub with_shape : Region → Plain → SizedType → Shape → Result StructPart No
with_shape region value t (Struct tag) = struct_part region value t tag
with_shape region value t shape = Err wrong_goal

abbrev pub with_type : Region → Plain → SizedType → Result StructPart No
with_type region value t = with_shape region value t t.shape

-- the struct at that region, which has that value
abbrev pub struct_at : Structs → Region → Plain → Result StructPart No
struct_at structs region value = on_ok (nested_type structs region.ty region.path) (with_type region value)

-- a part whose type at its path is a struct
abbrev pub struct_of : Structs → Sep → Result StructPart No
struct_of structs (FieldAt region value) = struct_at structs region value
struct_of structs (Padding region) = Err wrong_goal
struct_of structs (Valid address) = Err wrong_goal
struct_of structs Anything = Err wrong_goal
struct_of structs (Predicate name terms) = Err wrong_goal

-- the region of a field of the struct at this one
abbrev pub field_region : Region → List ℕ → Region
field_region region x = record { share = region.share; ty = region.ty; path = region.path ++ Field x ∷ []; root = region.root }

-- the bytes of the fields
abbrev pub field_bytes : Structs → List d.Field → ℕ
field_bytes structs [] = 0
field_bytes structs (f ∷ fields) = unwrap_or (size structs f.ty) 0 + field_bytes structs fields

-- the fields do not fill the struct
abbrev pub has_padding : Structs → List ℕ → List d.Field → Bool
has_padding structs tag fields = not (nat_eq (field_bytes structs fields) (unwrap_or (size structs (c.Struct tag)) 0))

-- its own padding, between its fields and at its end, where there is some
abbrev pub padding_parts : Structs → StructPart → List d.Field → List Sep
padding_parts structs s fields = if has_padding structs s.tag fields then (Padding s.region ∷ []) else []
