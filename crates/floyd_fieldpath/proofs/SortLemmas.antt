-- Value sorts, as the program takes types apart.
use Rattle.std.proofs.Common.{◌≡◌, ℕ, zero, suc, ◌+◌, ◌<◌, List, [], ◌∷◌, length, drop, get_or, Option, Some, None, refl, ap, sym, ◌∙◌, arith}
use Rattle.std.specs.Prelude.{option_map}
use Rattle.floyd_ctypes.specs.declared.ctype.CType.{CType, Pointer as PointerTo, Array as ArrayOf, Function as FunctionOf, more_of-CType, end_of-CType}
use Rattle.floyd_ctypes.specs.declared.ctype.CType as c
use Rattle.floyd_ctypes.specs.declared.ctype.CType.TheBlock as ct
use Rattle.floyd_ctypes.specs.declared.field.Field.{Field}
use Rattle.floyd_tree_sorts.specs.declared.shape.Shape.{Shape, Pointer, Array, Function}
use Rattle.floyd_tree_sorts.specs.declared.shape.Shape.TheBlock as sh
use Rattle.floyd_tree_sorts.specs.declared.sorts.Sort.{Sort, Val}
use Rattle.floyd_tree_sorts.specs.Sorts.{list_sort}
use Rattle.floyd_tree_values.specs.Defaults.{type_sort, shape_sort, fields_sort, pair_sorts}
use Rattle.floyd_fieldpath.specs.SortClauses.{element_sort, innermost, in_lists}
use denote.Hole.Carrier.{hidden}

pub pointer_sort : (of : List ℕ → Option Sort) (a : Shape) → shape_sort of (Pointer a) ≡ Some Val
unfolding sh.shape-the_row-Shape-0 sh.hidden-the_row-Shape-0 hidden
pointer_sort of a = refl

pub array_sort : (of : List ℕ → Option Sort) (a : Shape) → shape_sort of (Array a) ≡ option_map list_sort (shape_sort of a)
unfolding sh.shape-the_row-Shape-0 sh.hidden-the_row-Shape-0 hidden
array_sort of a = refl

pub function_sort : (of : List ℕ → Option Sort) (ps : List Shape) (r : Shape) → shape_sort of (Function ps r) ≡ None
unfolding sh.shape-the_row-Shape-0 sh.hidden-the_row-Shape-0 hidden
function_sort of ps r = refl

pub innermost_array : (a : CType) (n : ℕ) → innermost (ArrayOf a n) ≡ innermost a
unfolding ct.shape-the_row-CType-0 ct.hidden-the_row-CType-0 hidden
innermost_array a n = refl

pub innermost_pointer : (a : CType) → innermost (PointerTo a) ≡ PointerTo a
unfolding ct.shape-the_row-CType-0 ct.hidden-the_row-CType-0 hidden
innermost_pointer a = refl

pub innermost_function : (ps : List CType) (r : CType) → innermost (FunctionOf ps r) ≡ FunctionOf ps r
unfolding ct.shape-the_row-CType-0 ct.hidden-the_row-CType-0 hidden
innermost_function ps r = refl

pub in_lists_array : (a : CType) (n : ℕ) (s : Option Sort) → in_lists (ArrayOf a n) s ≡ option_map list_sort (in_lists a s)
unfolding ct.shape-the_row-CType-0 ct.hidden-the_row-CType-0 hidden
in_lists_array a n s = refl

pub in_lists_pointer : (a : CType) (s : Option Sort) → in_lists (PointerTo a) s ≡ s
unfolding ct.shape-the_row-CType-0 ct.hidden-the_row-CType-0 hidden
in_lists_pointer a s = refl

pub in_lists_function : (ps : List CType) (r : CType) (s : Option Sort) → in_lists (FunctionOf ps r) s ≡ s
unfolding ct.shape-the_row-CType-0 ct.hidden-the_row-CType-0 hidden
in_lists_function ps r s = refl

pub pointer_element : (of : List ℕ → Option Sort) (a : CType) → element_sort of (PointerTo a) ≡ Some Val
unfolding ct.shape-the_row-CType-0 ct.hidden-the_row-CType-0 hidden
pointer_element of a = refl

pub array_element : (of : List ℕ → Option Sort) (a : CType) (n : ℕ) → element_sort of (ArrayOf a n) ≡ None
unfolding ct.shape-the_row-CType-0 ct.hidden-the_row-CType-0 hidden
array_element of a n = refl

pub function_element : (of : List ℕ → Option Sort) (ps : List CType) (r : CType) → element_sort of (FunctionOf ps r) ≡ None
unfolding ct.shape-the_row-CType-0 ct.hidden-the_row-CType-0 hidden
function_element of ps r = refl

-- the sort of a type is that of its innermost elements, in lists
pub lists_around : (of : List ℕ → Option Sort) (t : CType) → in_lists t (element_sort of (innermost t)) ≡ type_sort of t
lists_around of (c.Array' p (more_of-CType t end_of-CType) n) = ap (option_map list_sort) (lists_around of t)
lists_around of c.Void = refl
lists_around of (c.Int kind) = refl
lists_around of (c.Pointer' p to) = refl
lists_around of (c.Struct tag) = refl
lists_around of (c.Function' shape ps p r) = refl

-- fields from the last one back
pub last_field : (of : List ℕ → Option Sort) (fields : List Field) (k : ℕ) (f : Field) → k + 1 ≡ length fields → f ≡ get_or fields k f → fields_sort of (drop k fields) ≡ type_sort of f.ty
last_field of [] k f l e = absurd (omega arith)
last_field of (g ∷ []) zero f l e = ap (λ (h : Field). type_sort of h.ty) (sym e)
last_field of (g ∷ []) (suc k) f l e = absurd (omega arith)
last_field of (g ∷ h ∷ more) zero f l e = absurd (omega arith)
last_field of (g ∷ h ∷ more) (suc k) f l e = last_field of (h ∷ more) k f (omega arith) e

before : (of : List ℕ → Option Sort) (fields : List Field) (k : ℕ) (f : Field) → suc k < length fields → f ≡ get_or fields k f → pair_sorts (type_sort of f.ty) (fields_sort of (drop (suc k) fields)) ≡ fields_sort of (drop k fields)
before of [] k f l e = absurd (omega arith)
before of (g ∷ []) k f l e = absurd (omega arith)
before of (g ∷ h ∷ more) zero f l e = ap (λ (x : Field). pair_sorts (type_sort of x.ty) (fields_sort of (h ∷ more))) e
before of (g ∷ h ∷ more) (suc k) f l e = before of (h ∷ more) k f (omega arith) e

pub field_before : (of : List ℕ → Option Sort) (fields : List Field) (k j : ℕ) (f : Field) → j ≡ k + 1 → j < length fields → f ≡ get_or fields k f → pair_sorts (type_sort of f.ty) (fields_sort of (drop j fields)) ≡ fields_sort of (drop k fields)
field_before of fields k j f e l g =
    let here : j ≡ suc k = omega arith in
    ap (λ n. pair_sorts (type_sort of f.ty) (fields_sort of (drop n fields))) here ∙ before of fields k f (omega arith) g
