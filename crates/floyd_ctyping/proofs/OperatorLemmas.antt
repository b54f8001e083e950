-- Operators on pointers as the program makes them.
use Rattle.std.proofs.Common.{◌≡◌, ℕ, Bool, true, false, List, length, is_some, option_and_then, refl, ap, ◌∙◌}
use Rattle.std.specs.Prelude.{◌==◌}
use denote.Hole.Carrier.{hidden}
use Rattle.floyd_int.specs.declared.kinds.IntKind.{IntKind}
use Rattle.floyd_ctypes.specs.declared.ctype.CType.{CType, Pointer, Function, items-the_row-CType}
use Rattle.floyd_ctypes.specs.declared.ctype.CType.TheBlock.{shape-the_row-CType-0, hidden-the_row-CType-0, hidden-the_row-CType-1, items_hidden-the_row-CType-1}
use Rattle.floyd_ctypes.specs.Structs.{Structs}
use Rattle.floyd_elab_names.specs.Types.{pointer_to, same_type, has_size, is_function}
use Rattle.floyd_ctyping.specs.Operators.{when, pointer_plus, number_plus, sum_of, difference_of, number_beside, pointer_beside, common_of, joins, becomes_pointer, converts_to, casts_to_pointer, casts_to, points_to_function, signature_of, with_count}

pub number_plus_of_pointer : (structs : Structs) (j : IntKind) (u : CType) → number_plus structs j (Pointer u) ≡ when (has_size structs u) (pointer_to u)
unfolding shape-the_row-CType-0 hidden-the_row-CType-0 hidden
number_plus_of_pointer structs j u = refl

pub sum_of_pointer : (structs : Structs) (t u : CType) → sum_of structs (Pointer t) u ≡ pointer_plus structs t u
unfolding shape-the_row-CType-0 hidden-the_row-CType-0 hidden
sum_of_pointer structs t u = refl

pub difference_of_pointer : (structs : Structs) (t u : CType) → difference_of structs (Pointer t) u ≡ pointer_plus structs t u
unfolding shape-the_row-CType-0 hidden-the_row-CType-0 hidden
difference_of_pointer structs t u = refl

pub number_beside_of_pointer : (zero : Bool) (j : IntKind) (u : CType) → number_beside zero j (Pointer u) ≡ when zero (pointer_to u)
unfolding shape-the_row-CType-0 hidden-the_row-CType-0 hidden
number_beside_of_pointer zero j u = refl

pub pointer_beside_of_pointer : (other : Bool) (t u : CType) → pointer_beside other t (Pointer u) ≡ when (same_type t u) (pointer_to t)
unfolding shape-the_row-CType-0 hidden-the_row-CType-0 hidden
pointer_beside_of_pointer other t u = refl

pub common_of_pointer : (zero other : Bool) (t u : CType) → common_of zero other (Pointer t) u ≡ pointer_beside other t u
unfolding shape-the_row-CType-0 hidden-the_row-CType-0 hidden
common_of_pointer zero other t u = refl

pub points_to_function_of_pointer : (t : CType) → points_to_function (Pointer t) ≡ is_function t
unfolding shape-the_row-CType-0 hidden-the_row-CType-0 hidden
points_to_function_of_pointer t = refl

pub becomes_pointer_of_pointer : (t : CType) (zero : Bool) (u : CType) → becomes_pointer t zero (Pointer u) ≡ joins t u
unfolding shape-the_row-CType-0 hidden-the_row-CType-0 hidden
becomes_pointer_of_pointer t zero u = refl

pub converts_to_of_pointer : (t : CType) (zero : Bool) (u : CType) → converts_to (Pointer t) zero u ≡ becomes_pointer t zero u
unfolding shape-the_row-CType-0 hidden-the_row-CType-0 hidden
converts_to_of_pointer t zero u = refl

pub casts_to_pointer_of_pointer : (zero : Bool) (u : CType) → casts_to_pointer zero (Pointer u) ≡ true
unfolding shape-the_row-CType-0 hidden-the_row-CType-0 hidden
casts_to_pointer_of_pointer zero u = refl

pub casts_to_of_pointer : (t : CType) (zero : Bool) (u : CType) → casts_to (Pointer t) zero u ≡ casts_to_pointer zero u
unfolding shape-the_row-CType-0 hidden-the_row-CType-0 hidden
casts_to_of_pointer t zero u = refl

is_some_when : {A : Type 0} (fits : Bool) (a : A) → is_some (when fits a) ≡ fits
is_some_when true a = refl
is_some_when false a = refl

-- a function has so many parameters
pub takes_function : (n : ℕ) (ps : List CType) (r : CType) → is_some (option_and_then (with_count n) (signature_of (Function ps r))) ≡ (length ps == n)
unfolding shape-the_row-CType-0 hidden-the_row-CType-0 hidden
takes_function n ps r =
    is_some_when {A = List CType × CType} (length (items-the_row-CType _ (hidden-the_row-CType-1 ps)) == n) (items-the_row-CType _ (hidden-the_row-CType-1 ps), r)
    ∙ ap (λ (l : List CType). length l == n) (items_hidden-the_row-CType-1 ps)
