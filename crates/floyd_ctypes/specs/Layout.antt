-- Sizes, alignments and offsets in bytes, on a target whose pointers have 8 bytes and whose integers of 1, 2, 4 and 8
-- bytes are aligned to their own size.
use Rattle.std.specs.Prelude.{◌≡◌, ℕ, Bool, true, IsTrue, ◌<◌, ◌^◌, ◌+◌, ◌-◌, ◌*◌, ◌/◌, ◌&&◌, nat_le, max, zero, suc, List, [], ◌∷◌, length, All, Option, None, Some, IsSome, option_map, option_and_then, if◌then◌else◌, bytes_eq}
use Rattle.floyd_int.specs.declared.kinds.IntKind.{IntKind}
use Rattle.floyd_int.specs.declared.kinds.IntKind.TheVariants.{I8, U8, I16, U16, I32, U32, I64, U64}
use Rattle.floyd_ctypes.specs.declared.ctype.CType.{CType, Void, Int, Pointer', Array', Struct, Function', more_of-CType, end_of-CType}
use Rattle.floyd_ctypes.specs.declared.field.Field.{Field}
use Rattle.floyd_ctypes.specs.declared.layout.Layout.{Layout}
use Rattle.floyd_ctypes.specs.Structs.{Structs, fields_of, completes}

abbrev pub kind_size : IntKind → ℕ
kind_size I8 = 1
kind_size U8 = 1
kind_size I16 = 2
kind_size U16 = 2
kind_size I32 = 4
kind_size U32 = 4
kind_size I64 = 8
kind_size U64 = 8

-- n bytes, aligned to their number
abbrev pub natural : ℕ → Layout
natural n = record { size = n; align = n }

-- the first multiple of the alignment that is not below n
abbrev pub round_up : ℕ → ℕ → ℕ
round_up n align = (n + (align - 1)) / align * align

-- of an array of n elements of that layout
abbrev pub repeated : ℕ → Layout → Layout
repeated n element = record { size = element.size * n; align = element.align }

-- the layout of a type, where `of` gives those of the structs; void and functions have none
abbrev pub layout_by : (List ℕ → Option Layout) → CType → Option Layout
layout_by of Void = None
layout_by of (Int k) = Some (natural (kind_size k))
layout_by of (Pointer' p to) = Some (natural 8)
layout_by of (Array' p (more_of-CType t end_of-CType) n) = option_map (repeated n) (layout_by of t)
layout_by of (Struct tag) = of tag
layout_by of (Function' shape ps p r) = None

-- The fields of a struct are laid one after the other. What is laid so far is seen as a layout: where it ends, and the
-- greatest alignment in it.
abbrev pub nothing_laid : Layout
nothing_laid = record { size = 0; align = 1 }

-- where a field of that layout begins: at the next multiple of its alignment
abbrev pub offset_after : Layout → Layout → ℕ
offset_after laid l = round_up laid.size l.align

abbrev pub after : Layout → Layout → Layout
after laid l = record { size = offset_after laid l + l.size; align = max laid.align l.align }

-- with the padding at the end
abbrev pub padded : Layout → Layout
padded laid = record { size = round_up laid.size laid.align; align = laid.align }

module _ (of : CType → Option Layout) where
  -- what is laid once the fields stand behind what was laid before, if each has a layout
  abbrev pub laid_after : Layout → List Field → Option Layout
  laid_after laid [] = Some laid
  laid_after laid (f ∷ fs) = option_and_then (λ l. laid_after (after laid l) fs) (of f.ty)

  -- the offset of the first field of that name
  abbrev pub offset_from : Layout → List Field → List ℕ → Option ℕ
  offset_from laid [] name = None
  offset_from laid (f ∷ fs) name =
      option_and_then (λ l. if bytes_eq name f.name then Some (offset_after laid l) else offset_from (after laid l) fs name) (of f.ty)

  -- the layout of a struct of these fields
  abbrev pub fields_layout : List Field → Option Layout
  fields_layout fields = option_map padded (laid_after nothing_laid fields)

-- the layout of the struct of that tag, where at most `depth` structs stand one in another; an incomplete one has none
abbrev pub struct_layout : ℕ → Structs → List ℕ → Option Layout
struct_layout zero structs tag = None
struct_layout (suc depth) structs tag =
    option_and_then (fields_layout (layout_by (struct_layout depth structs))) (fields_of structs tag)

-- no struct stands in itself, so that no more of them stand one in another than are complete
abbrev pub layout : Structs → CType → Option Layout
layout structs t = layout_by (struct_layout (completes structs) structs) t

abbrev pub size : Structs → CType → Option ℕ
size structs t = option_map (λ l. l.size) (layout structs t)

abbrev pub align : Structs → CType → Option ℕ
align structs t = option_map (λ l. l.align) (layout structs t)

-- the offset of a field in the struct of that tag
abbrev pub offset : Structs → List ℕ → List ℕ → Option ℕ
offset structs tag name = option_and_then (λ fields. offset_from (layout structs) nothing_laid fields name) (fields_of structs tag)

-- the greatest size of an object
abbrev pub max_object : ℕ
max_object = 4294967295

abbrev pub within_limit : Option Layout → Bool
within_limit None = true
within_limit (Some l) = nat_le l.size max_object

-- no array in the type is larger than an object may be
abbrev pub arrays_fit : Structs → CType → Bool
arrays_fit structs (Array' p (more_of-CType t end_of-CType) n) =
    arrays_fit structs t && within_limit (option_map (repeated n) (layout structs t))
arrays_fit structs t = true

-- no array in the type is larger than an object may be, nor is the type itself, where it has a size
abbrev pub type_fits : Structs → CType → Bool
type_fits structs t = arrays_fit structs t && within_limit (layout structs t)

-- how a complete struct of a table lies in memory: as its fields do. There are some, and fewer than 2 ^ 31, and none is
-- larger than an object may be, nor is an array in it.
pub record IsLaidOut (structs : Structs) (tag : List ℕ) (fields : List Field) : Type 0 where
  pub some : 0 < length fields
  pub few : length fields < 2 ^ 31
  pub fits : All (λ f. IsTrue (type_fits structs f.ty)) fields
  pub sized : IsSome (fields_layout (layout structs) fields)
  pub same : layout structs (Struct tag) ≡ fields_layout (layout structs) fields
