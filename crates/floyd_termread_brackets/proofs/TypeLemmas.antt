-- The arrays of types, and lists with their last item apart.
use Rattle.std.proofs.Common.{◌≡◌, ◌+◌, List, [], ◌∷◌, ◌++◌, map, length, Some, option_map, refl, ap, sym, ◌∙◌, length-append}
use Rattle.floyd_tree_sorts.specs.declared.shape.Shape.{Shape, Pointer, Array, Function, items-the_row-Shape, Row_of-Shape, end_of-Shape, more_of-Shape}
use Rattle.floyd_tree_sorts.specs.declared.shape.Shape.TheBlock as sh
use Rattle.floyd_tree_sorts.specs.Table.{arrays, arrays_in}
use Rattle.floyd_tree_sorts.specs.ShapeClauses.{arrays_of}
use Rattle.floyd_tree.specs.Plain.{Plain}
use Rattle.floyd_tree.specs.Types.{SizedType}
use Rattle.floyd_termread_brackets.specs.Brackets.{ends_from, split_last, function_type, function_made, type_shape}
use denote.Hole.Carrier.{hidden}

pub pointer_arrays : (s : Shape) → arrays (Pointer s) ≡ arrays s
unfolding sh.shape-the_row-Shape-0 sh.hidden-the_row-Shape-0 hidden
pointer_arrays s = refl

pub array_arrays : (s : Shape) → arrays (Array s) ≡ arrays s + 1
unfolding sh.shape-the_row-Shape-0 sh.hidden-the_row-Shape-0 hidden
array_arrays s = refl

arrays_items : {n : _} (row : Row_of-Shape n) → arrays_in row ≡ arrays_of (items-the_row-Shape n row)
arrays_items end_of-Shape = refl
arrays_items (more_of-Shape s rest) = ap (λ n. arrays s + n) (arrays_items rest)

pub function_arrays : (ps : List Shape) (r : Shape) → arrays (Function ps r) ≡ arrays_of ps + arrays r
unfolding sh.shape-the_row-Shape-0 sh.hidden-the_row-Shape-0 hidden
function_arrays ps r = ap (λ n. n + arrays r) (arrays_items (sh.hidden-the_row-Shape-1 ps) ∙ ap arrays_of (sh.items_hidden-the_row-Shape-1 ps))

ends-snoc : {A : Type 0} (x : A) (ps : List A) (last : A) → ends_from x (ps ++ last ∷ []) ≡ (x ∷ ps, last)
ends-snoc x [] last = refl
ends-snoc x (p ∷ ps) last = ap (λ e. (x ∷ e.0, e.1)) (ends-snoc p ps last)

split-snoc : {A : Type 0} (ps : List A) (last : A) → split_last (ps ++ last ∷ []) ≡ Some (ps, last)
split-snoc [] last = refl
split-snoc (p ∷ ps) last = ap (λ e. Some e) (ends-snoc p ps last)

pub function_of_last : (ps : List SizedType) (last : SizedType) → function_made (ps ++ last ∷ []) ≡ Some (function_type ps last)
function_of_last ps last = ap (option_map (λ ends. function_type ends.0 ends.1)) (split-snoc ps last)

-- the sizes of the parameters and of the result are as many as a function's type has arrays
pub function_fits : (ps : List SizedType) (r : Shape) (shapes : List Shape) (sizes more all : List Plain) → shapes ≡ map type_shape ps → length sizes ≡ arrays_of (map type_shape ps) → length more ≡ arrays r
    → all ≡ sizes ++ more → length all ≡ arrays (Function shapes r)
function_fits ps r shapes sizes more all e n m is =
    ap (λ (ts : List Plain). length ts) is
    ∙ length-append sizes more
    ∙ ap (λ k. k + length more) (n ∙ ap arrays_of (sym e))
    ∙ ap (λ k. arrays_of shapes + k) m
    ∙ sym (function_arrays shapes r)
