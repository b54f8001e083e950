-- How an object lies in memory, with its structs written out.
use Rattle.std.specs.Prelude.{ℕ, zero, suc, max, ℤ, pos, negsuc, List, [], ◌∷◌, Option, None, Some, option_map, option_and_then}
use Rattle.floyd_ctypes.specs.declared.ctype.CType.{CType, Void, Int, Pointer', Array', Struct as StructType, Function', more_of-CType, end_of-CType}
use Rattle.floyd_ctypes.specs.declared.field.Field.{Field}
use Rattle.floyd_ctypes.specs.declared.layout.Layout.{Layout}
use Rattle.floyd_ctypes.specs.Layout.{natural, repeated, nothing_laid, offset_after, after, padded}
use Rattle.floyd_ctypes.specs.Structs.{Structs, fields_of, completes}
use Rattle.floyd_tree_sorts.specs.declared.shape.Shape.{Shape, more_of-Shape, end_of-Shape}
use Rattle.floyd_tree_sorts.specs.declared.shape.Shape as s
use Rattle.floyd_assert_cells.specs.Scalars.{Scalar, Integer, Address, scalar_size}
use Rattle.floyd_assert_cells.specs.Types.{Sized}

mutual
  -- a scalar, an array of so many elements, or a struct
  pub data Form : Type 0 where
    Single : (scalar : Scalar) → Form
    Array : (item : Form) → (count : ℕ) → Form
    Struct : (fields : Fields) → Form

  -- fields in order, each at its offset, and where the struct ends
  pub data Fields : Type 0 where
    EndAt : (size : ℕ) → Fields
    FieldAt : (name : List ℕ) → (offset : ℕ) → (form : Form) → (rest : Fields) → Fields

abbrev pub end_of : Fields → ℕ
end_of (EndAt size) = size
end_of (FieldAt name offset f rest) = end_of rest

-- a struct is aligned as the field with the greatest alignment
abbrev mutual
  pub form_layout : Form → Layout
  form_layout (Single s) = natural (scalar_size s)
  form_layout (Array f n) = repeated n (form_layout f)
  form_layout (Struct fields) = record { size = end_of fields; align = align_of fields }

  pub align_of : Fields → ℕ
  align_of (EndAt size) = 1
  align_of (FieldAt name offset f rest) = max (form_layout f).align (align_of rest)

abbrev pub form_size : Form → ℕ
form_size f = (form_layout f).size

module _ (of : List ℕ → Option Form) where
  -- the form of a type, where `of` gives those of the structs; void and functions have none
  abbrev pub type_form : CType → Option Form
  type_form Void = None
  type_form (Int k) = Some (Single (Integer k))
  type_form (Pointer' p to) = Some (Single Address)
  type_form (Array' p (more_of-CType t end_of-CType) n) = option_map (λ f. Array f n) (type_form t)
  type_form (StructType tag) = of tag
  type_form (Function' shape ps p r) = None

  -- the fields laid behind what is laid, and the padding at the end
  abbrev pub fields_form : Layout → List Field → Option Fields
  fields_form laid [] = Some (EndAt (padded laid).size)
  fields_form laid (f ∷ fs) =
      option_and_then (λ g. option_map (FieldAt f.name (offset_after laid (form_layout g)) g) (fields_form (after laid (form_layout g)) fs)) (type_form f.ty)

  -- an array of a negative size has none either
  abbrev pub shape_form : Shape → List ℤ → Option Form
  shape_form s.Void sizes = None
  shape_form (s.Int k) sizes = Some (Single (Integer k))
  shape_form (s.Pointer' p to) sizes = Some (Single Address)
  shape_form (s.Array' p (more_of-Shape t end_of-Shape)) [] = None
  shape_form (s.Array' p (more_of-Shape t end_of-Shape)) (pos n ∷ sizes) = option_map (λ f. Array f n) (shape_form t sizes)
  shape_form (s.Array' p (more_of-Shape t end_of-Shape)) (negsuc n ∷ sizes) = None
  shape_form (s.Struct tag) sizes = of tag
  shape_form (s.Function' shape ps p r) sizes = None

-- the form of the struct of that tag, where at most `depth` structs stand one in another; an incomplete one has none
abbrev pub struct_form : ℕ → Structs → List ℕ → Option Form
struct_form zero structs tag = None
struct_form (suc depth) structs tag =
    option_and_then (λ fields. option_map Struct (fields_form (struct_form depth structs) nothing_laid fields)) (fields_of structs tag)

-- no struct stands in itself, so that no more of them stand one in another than are complete
abbrev pub form_of : Structs → Sized → Option Form
form_of structs t = shape_form (struct_form (completes structs) structs) t.shape t.sizes
