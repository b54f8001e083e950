-- Where pieces of arrays may stand.
use Rattle.std.specs.Prelude.{◌≡◌, ◌+◌, ◌*◌, ℕ, true, pos, [], Some}
use Rattle.floyd_int.specs.declared.kinds.Value.TheVariants.{Vptr}
use Rattle.floyd_ctypes.specs.Structs.{Structs}
use Rattle.floyd_assert_cells.specs.Laws.{array_of}
use Rattle.floyd_assert_cells.specs.Types.{Sized, compatible, size}

-- an array of so many elements may stand at a place
abbrev pub ArrayFits : Structs → Sized → ℕ → ℕ → ℕ → Type 0
ArrayFits structs t n block offset = compatible structs (array_of (pos n) t) [] (Vptr block offset) ≡ true

-- the first m elements, and the n others behind them
abbrev pub PiecesMayStand : Type 0
PiecesMayStand =
    (structs : Structs) (t : Sized) (m n bytes block offset : ℕ) → size structs t ≡ Some (pos bytes) → ArrayFits structs t (m + n) block offset →
    ArrayFits structs t m block offset × ArrayFits structs t n block (offset + bytes * m)

-- and both as one array
abbrev pub WholesMayStand : Type 0
WholesMayStand =
    (structs : Structs) (t : Sized) (m n bytes block offset : ℕ) → size structs t ≡ Some (pos bytes) → ArrayFits structs t m block offset → ArrayFits structs t n block (offset + bytes * m) →
    ArrayFits structs t (m + n) block offset
