-- Arrays, against their elements.
use Rattle.std.proofs.Common.{◌≡◌, ℕ, ◌+◌, ◌<◌, ◌≤◌, ◌*◌, arith, Bool, true, false, true≢false, nat_le, ◌&&◌, List, Option, None, Some, option_map, refl, ap, sym, ◌∙◌}
use Rattle.std.proofs.lemmas.Bool.{leb-true}
use denote.Hole.Carrier.{hidden}
use Rattle.floyd_ctypes.specs.declared.ctype.CType.{CType, Array, Array', more_of-CType, end_of-CType}
use Rattle.floyd_ctypes.specs.declared.ctype.CType.TheBlock.{shape-the_row-CType-0, hidden-the_row-CType-0}
use Rattle.floyd_ctypes.specs.declared.layout.Layout.{Layout}
use Rattle.floyd_ctypes.specs.Structs.{Structs, completes}
use Rattle.floyd_ctypes.specs.Layout.{layout_by, layout, align, struct_layout, arrays_fit, within_limit, repeated, max_object}

pub layout_by-array : (of : List ℕ → Option Layout) (t : CType) (n : ℕ) → layout_by of (Array t n) ≡ option_map (repeated n) (layout_by of t)
unfolding hidden-the_row-CType-0 shape-the_row-CType-0 hidden
layout_by-array of t n = refl

-- how many arrays stand one in another
abbrev pub levels : CType → ℕ
levels (Array' p (more_of-CType t end_of-CType) n) = levels t + 1
levels t = 0

pub levels-array : (t : CType) (n : ℕ) → levels (Array t n) ≡ levels t + 1
unfolding hidden-the_row-CType-0 shape-the_row-CType-0 hidden
levels-array t n = refl

-- those of an element are fewer
pub levels_fall : (t element : CType) (n : ℕ) → t ≡ Array element n → levels element < levels t
levels_fall t element n e = omega (arith, ap levels e, levels-array element n)

pub arrays_fit-array : (structs : Structs) (t : CType) (n : ℕ) → arrays_fit structs (Array t n) ≡ (arrays_fit structs t && within_limit (option_map (repeated n) (layout structs t)))
unfolding hidden-the_row-CType-0 shape-the_row-CType-0 hidden
arrays_fit-array structs t n = refl

map-map : {X Y Z : Type 0} (f : X → Y) (g : Y → Z) (o : Option X) → option_map g (option_map f o) ≡ option_map (λ x. g (f x)) o
map-map f g None = refl
map-map f g (Some x) = refl

-- an array has its element's alignment
pub align-array : (structs : Structs) (t : CType) (n : ℕ) → align structs (Array t n) ≡ align structs t
align-array structs t n =
    ap (option_map (λ (l : Layout). l.align)) (layout_by-array (struct_layout (completes structs) structs) t n)
    ∙ map-map (repeated n) (λ (l : Layout). l.align) (layout structs t)

-- and its element's size times the number of elements
pub layout-array_some : (structs : Structs) (t : CType) (n : ℕ) (l : Layout) → Some l ≡ layout structs t → Some (repeated n l) ≡ layout structs (Array t n)
layout-array_some structs t n l e = ap (option_map (repeated n)) e ∙ sym (layout_by-array (struct_layout (completes structs) structs) t n)

pub layout-array_none : (structs : Structs) (t : CType) (n : ℕ) → None ≡ layout structs t → None ≡ layout structs (Array t n)
layout-array_none structs t n e = ap (option_map (repeated n)) e ∙ sym (layout_by-array (struct_layout (completes structs) structs) t n)

both_left : (a b : Bool) → (a && b) ≡ true → a ≡ true
both_left true b e = refl
both_left false b e = e

both_right : (a b : Bool) → (a && b) ≡ true → b ≡ true
both_right true b e = e
both_right false b e = absurd (true≢false (sym e))

-- where the arrays of an array fit, those of its element do
pub elements_fit : (structs : Structs) (t : CType) (n : ℕ) → arrays_fit structs (Array t n) ≡ true → arrays_fit structs t ≡ true
elements_fit structs t n e = both_left _ _ (sym (arrays_fit-array structs t n) ∙ e)

-- and it fits itself
pub array_within : (structs : Structs) (t : CType) (n : ℕ) (l : Layout) → arrays_fit structs (Array t n) ≡ true → Some l ≡ layout structs t → l.size * n ≤ max_object
array_within structs t n l e f =
    leb-true (l.size * n) max_object
    (ap (λ (o : Option Layout). within_limit (option_map (repeated n) o)) f ∙ both_right (arrays_fit structs t) _ (sym (arrays_fit-array structs t n) ∙ e))

-- whether the arrays of an array fit, from its element
pub arrays_fit-inside : (structs : Structs) (t : CType) (n : ℕ) → false ≡ arrays_fit structs t → false ≡ arrays_fit structs (Array t n)
arrays_fit-inside structs t n e = ap (λ b. b && within_limit (option_map (repeated n) (layout structs t))) e ∙ sym (arrays_fit-array structs t n)

pub arrays_fit-some : (structs : Structs) (t : CType) (n : ℕ) (l : Layout) → true ≡ arrays_fit structs t → Some l ≡ layout structs t → nat_le (l.size * n) max_object ≡ arrays_fit structs (Array t n)
arrays_fit-some structs t n l e f =
    ap (λ b. b && nat_le (l.size * n) max_object) e
    ∙ ap (λ (o : Option Layout). arrays_fit structs t && within_limit (option_map (repeated n) o)) f
    ∙ sym (arrays_fit-array structs t n)

pub arrays_fit-none : (structs : Structs) (t : CType) (n : ℕ) → true ≡ arrays_fit structs t → None ≡ layout structs t → true ≡ arrays_fit structs (Array t n)
arrays_fit-none structs t n e f =
    ap (λ b. b && true) e
    ∙ ap (λ (o : Option Layout). arrays_fit structs t && within_limit (option_map (repeated n) o)) f
    ∙ sym (arrays_fit-array structs t n)
