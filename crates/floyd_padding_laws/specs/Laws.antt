-- Structs whose fields fill them.
use Rattle.std.specs.Prelude.{◌≡◌, ℕ, false, ℤ, List, Some}
use Rattle.floyd_ctypes.specs.declared.field.Field.{Field}
use Rattle.floyd_ctypes.specs.Layout.{IsLaidOut, nothing_laid}
use Rattle.floyd_ctypes.specs.Structs.{Structs, fields_of}
use Rattle.floyd_clight_heap.specs.Heaplet.{Heaplet}
use Rattle.floyd_tree_values.specs.Data.{Datum}
use Rattle.floyd_assert_cells.specs.Cells.{Cells}
use Rattle.floyd_assert_cells.specs.Laws.{FieldSum, struct_of}
use Rattle.floyd_arrays_structs.specs.StructParts.{has_padding}

-- a struct without padding is the sum of its fields
abbrev pub FilledIsSplit : Type 0
FilledIsSplit =
    (structs : Structs) (share : ℤ) (tag : List ℕ) (fields : List Field) (v : Datum) (block offset : ℕ) (h : Heaplet) →
    fields_of structs tag ≡ Some fields → has_padding structs tag fields ≡ false → Cells structs share (struct_of tag) v block offset h →
    FieldSum structs share nothing_laid fields v block offset h

-- and the sum of its fields is the struct
abbrev pub FilledIsJoined : Type 0
FilledIsJoined =
    (structs : Structs) (share : ℤ) (tag : List ℕ) (fields : List Field) (v : Datum) (block offset : ℕ) (h : Heaplet) →
    fields_of structs tag ≡ Some fields → IsLaidOut structs tag fields → has_padding structs tag fields ≡ false →
    FieldSum structs share nothing_laid fields v block offset h → Cells structs share (struct_of tag) v block offset h
