-- Types as the program makes them, and the tests of specs/Types on them.
use Rattle.std.proofs.Common.{◌≡◌, ℕ, ◌&&◌, not, Some, List, refl}
use denote.Hole.Carrier.{hidden}
use Rattle.floyd_ctypes.specs.declared.ctype.CType.{CType, Pointer, Array, Function}
use Rattle.floyd_ctypes.specs.declared.ctype.CType.TheBlock.{shape-the_row-CType-0, hidden-the_row-CType-0}
use Rattle.floyd_elab_names.specs.Types.{pointer_to, array_of, decay, pointee, is_aggregate, returns_well}

pub pointer_is : (t : CType) → Pointer t ≡ pointer_to t
unfolding shape-the_row-CType-0 hidden-the_row-CType-0 hidden
pointer_is t = refl

pub array_is : (t : CType) (n : ℕ) → Array t n ≡ array_of t n
unfolding shape-the_row-CType-0 hidden-the_row-CType-0 hidden
array_is t n = refl

pub decay-array : (t : CType) (n : ℕ) → decay (Array t n) ≡ Pointer t
unfolding shape-the_row-CType-0 hidden-the_row-CType-0 hidden
decay-array t n = refl

pub pointee-pointer : (t : CType) → pointee (Pointer t) ≡ Some t
unfolding shape-the_row-CType-0 hidden-the_row-CType-0 hidden
pointee-pointer t = refl

pub returns_well-pointer : (t : CType) → returns_well (Pointer t) ≡ returns_well t
unfolding shape-the_row-CType-0 hidden-the_row-CType-0 hidden
returns_well-pointer t = refl

pub returns_well-array : (t : CType) (n : ℕ) → returns_well (Array t n) ≡ returns_well t
unfolding shape-the_row-CType-0 hidden-the_row-CType-0 hidden
returns_well-array t n = refl

pub returns_well-function : (ps : List CType) (r : CType) → returns_well (Function ps r) ≡ (not (is_aggregate r) && returns_well r)
unfolding shape-the_row-CType-0 hidden-the_row-CType-0 hidden
returns_well-function ps r = refl
