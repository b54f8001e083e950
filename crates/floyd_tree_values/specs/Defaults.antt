-- Value sorts of types, and default values. The sizes of a type's arrays are given beside it, the outermost first.
use Rattle.std.specs.Prelude.{ℕ, zero, suc, List, [], ◌∷◌, replicate, Option, Some, None, option_map, option_and_then, ℤ}
use Rattle.std.specs.Option.{option_map_or}
use Rattle.floyd_int.specs.declared.kinds.Value.TheVariants.{Vundef}
use Rattle.floyd_ctypes.specs.declared.ctype.CType.{CType, more_of-CType, end_of-CType}
use Rattle.floyd_ctypes.specs.declared.ctype.CType as c
use Rattle.floyd_ctypes.specs.declared.field.Field.{Field}
use Rattle.floyd_ctypes.specs.Structs.{Structs, fields_of, completes}
use Rattle.floyd_tree_sorts.specs.declared.shape.Shape.{Shape, Void, Array', Struct, Function', more_of-Shape, end_of-Shape}
use Rattle.floyd_tree_sorts.specs.declared.sorts.Sort.{Sort, Val}
use Rattle.floyd_tree_sorts.specs.Sorts.{list_sort, pair_sort}
use Rattle.floyd_tree_values.specs.Data.{Datum, Pair, seq}
use Rattle.floyd_tree_values.specs.Data as d
use Rattle.floyd_tree_values.specs.Lists.{repeat}

abbrev pub pair_sorts : Option Sort → Option Sort → Option Sort
pair_sorts (Some a) (Some b) = Some (pair_sort a b)
pair_sorts a b = None

module _ (of : List ℕ → Option Sort) where
  -- the value sort of a type, where `of` gives those of the structs; void and functions have none
  abbrev pub type_sort : CType → Option Sort
  type_sort c.Void = None
  type_sort (c.Int kind) = Some Val
  type_sort (c.Pointer' p to) = Some Val
  type_sort (c.Array' p (more_of-CType t end_of-CType) n) = option_map list_sort (type_sort t)
  type_sort (c.Struct tag) = of tag
  type_sort (c.Function' shape ps p r) = None

  -- the pairs of the fields' sorts, nested to the right; of one field, that field's
  abbrev pub fields_sort : List Field → Option Sort
  fields_sort [] = None
  fields_sort (f ∷ []) = type_sort f.ty
  fields_sort (f ∷ g ∷ more) = pair_sorts (type_sort f.ty) (fields_sort (g ∷ more))

  abbrev pub shape_sort : Shape → Option Sort
  shape_sort Void = None
  shape_sort (Array' p (more_of-Shape t end_of-Shape)) = option_map list_sort (shape_sort t)
  shape_sort (Struct tag) = of tag
  shape_sort (Function' shape ps p r) = None
  shape_sort scalar = Some Val

-- the value sort of the struct of that tag, where at most `depth` structs stand one in another; an incomplete one has none
abbrev pub struct_sort : ℕ → Structs → List ℕ → Option Sort
struct_sort zero structs tag = None
struct_sort (suc depth) structs tag = option_and_then (fields_sort (struct_sort depth structs)) (fields_of structs tag)

-- no struct stands in itself, so that no more of them stand one in another than are complete
abbrev pub value_sort : Structs → Shape → Option Sort
value_sort structs shape = shape_sort (struct_sort (completes structs) structs) shape

-- the same of a type of C, whose arrays have their sizes
abbrev pub ctype_sort : Structs → CType → Option Sort
ctype_sort structs t = type_sort (struct_sort (completes structs) structs) t

abbrev pub undefined : Datum
undefined = d.Val Vundef

module _ (of : List ℕ → Datum) where
  -- the default value of a type: that of a scalar is undefined, that of an array has its element's at each place
  abbrev pub type_default : CType → Datum
  type_default (c.Array' p (more_of-CType t end_of-CType) n) = seq (replicate n (type_default t))
  type_default (c.Struct tag) = of tag
  type_default t = undefined

  -- the pairs of the fields' default values, nested to the right; of one field, that field's
  abbrev pub fields_default : List Field → Datum
  fields_default [] = undefined
  fields_default (f ∷ []) = type_default f.ty
  fields_default (f ∷ g ∷ more) = Pair (type_default f.ty) (fields_default (g ∷ more))

  abbrev pub shape_default : Shape → List ℤ → Datum
  shape_default (Array' p (more_of-Shape t end_of-Shape)) [] = seq []
  shape_default (Array' p (more_of-Shape t end_of-Shape)) (n ∷ sizes) = seq (repeat (shape_default t sizes) n)
  shape_default (Struct tag) sizes = of tag
  shape_default shape sizes = undefined

abbrev pub struct_default : ℕ → Structs → List ℕ → Datum
struct_default zero structs tag = undefined
struct_default (suc depth) structs tag = option_map_or (fields_default (struct_default depth structs)) (fields_of structs tag) undefined

-- the default value of a type whose arrays have these sizes
abbrev pub default_value : Structs → Shape → List ℤ → Datum
default_value structs shape sizes = shape_default (struct_default (completes structs) structs) shape sizes
