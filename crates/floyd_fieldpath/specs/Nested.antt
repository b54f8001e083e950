-- The type at a path of fields and subscripts, where the sizes of arrays are terms.
use Rattle.std.specs.Prelude.{ℕ, ℤ, List, [], ◌∷◌, map, Option, Some, None, option_map, option_and_then, Result, Ok, Err}
use Rattle.floyd_text.specs.declared.code.Code.TheVariants.{PathIllegal}
use Rattle.floyd_text.specs.declared.refusal.No.{No}
use Rattle.floyd_text.specs.declared.refusal.Shown.TheVariants.{Nothing}
use Rattle.floyd_ctypes.specs.declared.ctype.CType.{CType}
use Rattle.floyd_ctypes.specs.Structs.{Structs, field_of}
use Rattle.floyd_tree_sorts.specs.declared.heads.Head.TheVariants.{Literal}
use Rattle.floyd_tree_sorts.specs.declared.shape.Shape.{Shape, Array', Struct, more_of-Shape, end_of-Shape}
use Rattle.floyd_tree.specs.declared.paths.PathStep.{PathStep}
use Rattle.floyd_tree.specs.declared.paths.PathStep.TheVariants.{Field, Subscript}
use Rattle.floyd_tree.specs.Plain.{Plain, At, Done}
use Rattle.floyd_tree.specs.Types.{SizedType}
use Rattle.floyd_assert_cells.specs.Types.{shape_of, sizes_of}

-- a number as a term
abbrev pub literal : ℤ → Plain
literal z = At (Literal z) Done

-- a type of C, whose array sizes are literals
abbrev pub sized_type : CType → SizedType
sized_type t = record { shape = shape_of t; sizes = map literal (sizes_of t) }

-- the type of an array's elements; the size of the outermost array stands first
abbrev pub element_type : Shape → List Plain → Option SizedType
element_type (Array' p (more_of-Shape element end_of-Shape)) (n ∷ sizes) = Some (record { shape = element; sizes = sizes })
element_type (Array' p (more_of-Shape element end_of-Shape)) [] = None
element_type shape sizes = None

-- the type of the field of that name, of a complete struct that has it
abbrev pub field_type : Structs → Shape → List ℕ → Option SizedType
field_type structs (Struct tag) name = option_map (λ f. sized_type f.ty) (field_of structs tag name)
field_type structs shape name = None

-- the type after a step; a subscript may be any number
abbrev pub type_after : Structs → SizedType → PathStep → Option SizedType
type_after structs t (Field name) = field_type structs t.shape name
type_after structs t (Subscript i) = element_type t.shape t.sizes

-- the type at a path, where it has one
abbrev pub type_at : Structs → SizedType → List PathStep → Option SizedType
type_at structs t [] = Some t
type_at structs t (step ∷ path) = option_and_then (λ u. type_at structs u path) (type_after structs t step)

-- what is refused where a path has no type
abbrev pub path_illegal : No
path_illegal = record { code = PathIllegal; shown = Nothing }

abbrev pub or_illegal : {T : Type 0} → Option T → Result T No
or_illegal (Some t) = Ok t
or_illegal None = Err path_illegal

-- the type at a path, or the refusal
abbrev pub nested_type : Structs → SizedType → List PathStep → Result SizedType No
nested_type structs t path = or_illegal (type_at structs t path)
