-- Constants of initial data.
use Rattle.std.proofs.Common.{◌≡◌, ℕ, Bool, true, false, is_some, ◌&&◌, Some, refl}
use denote.Hole.Carrier.{hidden}
use Rattle.floyd_ctypes.specs.declared.ctype.CType.{CType, Array}
use Rattle.floyd_ctypes.specs.declared.ctype.CType.TheBlock.{shape-the_row-CType-0, hidden-the_row-CType-0}
use Rattle.floyd_ctypes.specs.Layout.{layout, arrays_fit}
use Rattle.floyd_ctypes.specs.Structs.{Structs}
use Rattle.floyd_elab_names.specs.Types.{has_size}
use Rattle.floyd_elab_data.specs.Contents.{element_of}

pub element_of_array : (t : CType) (n : ℕ) → element_of (Array t n) ≡ Some t
unfolding shape-the_row-CType-0 hidden-the_row-CType-0 hidden
element_of_array t n = refl

pub sized_fits : (structs : Structs) (t : CType) → has_size structs t ≡ true → arrays_fit structs t ≡ true
sized_fits structs t = by (is_some (layout structs t)) (arrays_fit structs t)
  where
    by : (a b : Bool) → (a && b) ≡ true → b ≡ true
    by true b h = h
    by false b h = cc
