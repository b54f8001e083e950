-- Types of C and shapes, as the program takes them apart.
use Rattle.std.proofs.Common.{◌≡◌, ℕ, ◌+◌, ◌-◌, ◌<◌, List, [], ◌∷◌, ◌++◌, map, length, drop, take, pos, Option, Some, None, refl, ap, ap₂, sym, ◌∙◌, arith, length-append}
use Rattle.std.proofs.Math.Seq.{take-length}
use Rattle.std.proofs.lemmas.List.{length-map, map-append, append_assoc}
use mathlib.Core.Former.{arity, list, this}
use Rattle.floyd_ctypes.specs.declared.ctype.CType.{CType, Pointer as PointerTo, Array as ArrayOf, Function as FunctionOf, items-the_row-CType, Row_of-CType, end_of-CType, more_of-CType}
use Rattle.floyd_ctypes.specs.declared.ctype.CType as c
use Rattle.floyd_ctypes.specs.declared.ctype.CType.TheBlock as ct
use Rattle.floyd_ctypes.specs.Structs.{Structs}
use Rattle.floyd_tree_sorts.specs.declared.shape.Shape.{Shape, Pointer, Array, Function, Function', Row_of-Shape, end_of-Shape, more_of-Shape}
use Rattle.floyd_tree_sorts.specs.declared.shape.Shape.TheBlock as sh
use Rattle.floyd_tree_sorts.specs.Table.{arrays, arrays_in}
use Rattle.floyd_tree.specs.Plain.{Plain}
use Rattle.floyd_tree.specs.Types.{SizedType}
use Rattle.floyd_assert_cells.specs.Types.{shape_of, shapes_of, sizes_of, all_sizes_of}
use Rattle.floyd_fieldpath.specs.Nested.{literal, element_type, field_type}
use Rattle.floyd_fieldpath.specs.NestedClauses.{sizes_of_all}
use denote.Hole.Carrier.{hidden}

-- shapes of types of C
pub pointer_shape : (a : CType) → shape_of (PointerTo a) ≡ Pointer (shape_of a)
unfolding ct.shape-the_row-CType-0 ct.hidden-the_row-CType-0 sh.shape-the_row-Shape-0 sh.hidden-the_row-Shape-0 hidden
pointer_shape a = refl

pub array_shape : (a : CType) (n : ℕ) → shape_of (ArrayOf a n) ≡ Array (shape_of a)
unfolding ct.shape-the_row-CType-0 ct.hidden-the_row-CType-0 sh.shape-the_row-Shape-0 sh.hidden-the_row-Shape-0 hidden
array_shape a n = refl

rows_agree : (X : Type 0) (F : (u : List (Unit {0})) → Row_of-Shape (arity (list this) u) → X) (ps : List CType) → F (ct.shape-the_row-CType-1 ps) (shapes_of (ct.hidden-the_row-CType-1 ps)) ≡ F (sh.shape-the_row-Shape-1 (map shape_of ps)) (sh.hidden-the_row-Shape-1 (map shape_of ps))
unfolding ct.shape-the_row-CType-1 ct.hidden-the_row-CType-1 sh.shape-the_row-Shape-1 sh.hidden-the_row-Shape-1 hidden
rows_agree X F [] = refl
rows_agree X F (p ∷ ps) = rows_agree X (λ u row. F (tt ∷ u) (more_of-Shape (shape_of p) row)) ps

pub function_shape : (ps : List CType) (r : CType) → shape_of (FunctionOf ps r) ≡ Function (map shape_of ps) (shape_of r)
unfolding ct.shape-the_row-CType-0 ct.hidden-the_row-CType-0 sh.shape-the_row-Shape-0 sh.hidden-the_row-Shape-0 hidden
function_shape ps r = rows_agree Shape (λ u row. Function' u row tt (more_of-Shape (shape_of r) end_of-Shape)) ps

-- their array sizes
pub pointer_sizes : (a : CType) → sizes_of (PointerTo a) ≡ sizes_of a
unfolding ct.shape-the_row-CType-0 ct.hidden-the_row-CType-0 hidden
pointer_sizes a = refl

pub array_sizes : (a : CType) (n : ℕ) → sizes_of (ArrayOf a n) ≡ pos n ∷ sizes_of a
unfolding ct.shape-the_row-CType-0 ct.hidden-the_row-CType-0 hidden
array_sizes a n = refl

all_sizes_items : {n : _} (row : Row_of-CType n) → all_sizes_of row ≡ sizes_of_all (items-the_row-CType n row)
all_sizes_items end_of-CType = refl
all_sizes_items (more_of-CType t rest) = ap (λ ns. sizes_of t ++ ns) (all_sizes_items rest)

pub function_sizes : (ps : List CType) (r : CType) → sizes_of (FunctionOf ps r) ≡ sizes_of_all ps ++ sizes_of r
unfolding ct.shape-the_row-CType-0 ct.hidden-the_row-CType-0 hidden
function_sizes ps r =
    ap (λ ns. ns ++ sizes_of r) (all_sizes_items (ct.hidden-the_row-CType-1 ps) ∙ ap sizes_of_all (ct.items_hidden-the_row-CType-1 ps))

pub pointer_literals : (a : CType) → map literal (sizes_of (PointerTo a)) ≡ map literal (sizes_of a)
pointer_literals a = ap (map literal) (pointer_sizes a)

pub array_literals : (a : CType) (n : ℕ) (before : List Plain) → (before ++ literal (pos n) ∷ []) ++ map literal (sizes_of a) ≡ before ++ map literal (sizes_of (ArrayOf a n))
array_literals a n before = append_assoc before (literal (pos n) ∷ []) (map literal (sizes_of a)) ∙ ap (λ ns. before ++ map literal ns) (sym (array_sizes a n))

pub function_literals : (ps : List CType) (r : CType) (before : List Plain) → (before ++ map literal (sizes_of_all ps)) ++ map literal (sizes_of r) ≡ before ++ map literal (sizes_of (FunctionOf ps r))
function_literals ps r before =
    append_assoc before (map literal (sizes_of_all ps)) (map literal (sizes_of r))
    ∙ ap (λ ts. before ++ ts) (sym (map-append literal (sizes_of_all ps) (sizes_of r)) ∙ ap (map literal) (sym (function_sizes ps r)))

-- there are as many sizes as arrays
mutual
  count : (t : CType) → length (sizes_of t) ≡ arrays (shape_of t)
  count c.Void = refl
  count (c.Int kind) = refl
  count (c.Pointer' p (more_of-CType t end_of-CType)) = count t
  count (c.Array' p (more_of-CType t end_of-CType) n) = omega (arith, count t)
  count (c.Struct tag) = refl
  count (c.Function' shape ps p (more_of-CType r end_of-CType)) = length-append (all_sizes_of ps) (sizes_of r) ∙ ap₂ (λ m n. m + n) (count_all ps) (count r)

  count_all : {n : _} (row : Row_of-CType n) → length (all_sizes_of row) ≡ arrays_in (shapes_of row)
  count_all end_of-CType = refl
  count_all (more_of-CType t rest) = length-append (sizes_of t) (all_sizes_of rest) ∙ ap₂ (λ m n. m + n) (count t) (count_all rest)

pub literals_count : (t : CType) → length (map literal (sizes_of t)) ≡ arrays (shape_of t)
literals_count t = length-map (sizes_of t) literal ∙ count t

-- elements of arrays, and of shapes that are none
pub element_of_none : (a : Shape) → element_type (Array a) [] ≡ None
unfolding sh.shape-the_row-Shape-0 sh.hidden-the_row-Shape-0 hidden
element_of_none a = refl

abbrev some_type : Shape → List Plain → Option SizedType
some_type shape sizes = Some (record { shape = shape; sizes = sizes })

pub element_behind : (u : SizedType) (a : Shape) (sizes : List Plain) → 0 < length sizes → u.shape ≡ a → u.sizes ≡ take (length sizes - 1) (drop 1 sizes) → Some u ≡ element_type (Array a) sizes
unfolding sh.shape-the_row-Shape-0 sh.hidden-the_row-Shape-0 hidden
element_behind u a [] some e f = absurd (omega arith)
element_behind u a (n ∷ sizes) some e f =
    let all : length (n ∷ sizes) - 1 ≡ length sizes = omega arith in
    ap₂ some_type e (f ∙ ap (λ k. take k sizes) all ∙ take-length sizes)

pub no_element_of_pointer : (a : Shape) (sizes : List Plain) → element_type (Pointer a) sizes ≡ None
unfolding sh.shape-the_row-Shape-0 sh.hidden-the_row-Shape-0 hidden
no_element_of_pointer a sizes = refl

pub no_element_of_function : (ps : List Shape) (r : Shape) (sizes : List Plain) → element_type (Function ps r) sizes ≡ None
unfolding sh.shape-the_row-Shape-0 sh.hidden-the_row-Shape-0 hidden
no_element_of_function ps r sizes = refl

pub array_arrays : (a : Shape) → arrays (Array a) ≡ arrays a + 1
unfolding sh.shape-the_row-Shape-0 sh.hidden-the_row-Shape-0 hidden
array_arrays a = refl

-- fields of shapes that are no structs
pub no_field_of_pointer : (structs : Structs) (a : Shape) (name : List ℕ) → field_type structs (Pointer a) name ≡ None
unfolding sh.shape-the_row-Shape-0 sh.hidden-the_row-Shape-0 hidden
no_field_of_pointer structs a name = refl

pub no_field_of_array : (structs : Structs) (a : Shape) (name : List ℕ) → field_type structs (Array a) name ≡ None
unfolding sh.shape-the_row-Shape-0 sh.hidden-the_row-Shape-0 hidden
no_field_of_array structs a name = refl

pub no_field_of_function : (structs : Structs) (ps : List Shape) (r : Shape) (name : List ℕ) → field_type structs (Function ps r) name ≡ None
unfolding sh.shape-the_row-Shape-0 sh.hidden-the_row-Shape-0 hidden
no_field_of_function structs ps r name = refl
