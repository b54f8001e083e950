-- Types, as the program takes shapes apart.
use Rattle.std.proofs.Common.{◌≡◌, ℕ, ◌+◌, ◌++◌, List, drop, refl, ap, sym, ◌∙◌, arith}
use Rattle.std.proofs.lemmas.List.{drop-drop}
use Rattle.std.specs.Prelude.{codes}
use Rattle.floyd_tree_sorts.specs.declared.shape.Shape.{Shape, Pointer, Array, Function, Row_of-Shape, end_of-Shape, more_of-Shape}
use Rattle.floyd_tree_sorts.specs.declared.shape.Shape.TheBlock.{items-the_row-Shape, shape-the_row-Shape-0, hidden-the_row-Shape-0, hidden-the_row-Shape-1, items_hidden-the_row-Shape-1}
use Rattle.floyd_tree_sorts.specs.ShapeClauses.{arrays_of}
use Rattle.floyd_tree_sorts.specs.Table.{arrays, arrays_in}
use Rattle.floyd_tree_sorts.proofs.ShapeLemmas.{arrays_function}
use Rattle.floyd_show_terms.specs.Types.{first_text, type_text, parameters_in}
use Rattle.floyd_show_terms.specs.TypesClauses.{parameters_text}
use denote.Hole.Carrier.{hidden}

pub pointer_text : (a : Shape) (ts : List (List ℕ)) → type_text (Pointer a) ts ≡ codes "ptr(" ++ type_text a ts ++ codes ")"
unfolding shape-the_row-Shape-0 hidden-the_row-Shape-0 hidden
pointer_text a ts = refl

pub array_text : (a : Shape) (ts : List (List ℕ)) → type_text (Array a) ts ≡ codes "array(" ++ type_text a (drop 1 ts) ++ codes ", " ++ first_text ts ++ codes ")"
unfolding shape-the_row-Shape-0 hidden-the_row-Shape-0 hidden
array_text a ts = refl

pub pointer_arrays : (a : Shape) → arrays (Pointer a) ≡ arrays a
unfolding shape-the_row-Shape-0 hidden-the_row-Shape-0 hidden
pointer_arrays a = refl

-- what an array leaves of the texts
pub array_left : (a : Shape) (ts : List (List ℕ)) → drop (arrays a) (drop 1 ts) ≡ drop (arrays (Array a)) ts
unfolding shape-the_row-Shape-0 hidden-the_row-Shape-0 hidden
array_left a ts = drop-drop (arrays a) 1 ts ∙ ap (λ n. drop n ts) (commute 1 (arrays a))
  where
    commute : (m n : ℕ) → m + n ≡ n + m
    commute m n = omega arith

arrays_in_items : {n : _} (row : Row_of-Shape n) → arrays_in row ≡ arrays_of (items-the_row-Shape n row)
arrays_in_items end_of-Shape = refl
arrays_in_items (more_of-Shape a rest) = ap (λ n. arrays a + n) (arrays_in_items rest)

parameters_are : {n : _} (row : Row_of-Shape n) (ts : List (List ℕ)) → parameters_in row ts ≡ parameters_text (items-the_row-Shape n row) ts
parameters_are end_of-Shape ts = refl
parameters_are (more_of-Shape a rest) ts = ap (λ x. type_text a ts ++ codes "; " ++ x) (parameters_are rest (drop (arrays a) ts))

-- a function, by the list of its parameters
pub function_is : (parameters : List Shape) (result : Shape) (ts : List (List ℕ))
    → type_text (Function parameters result) ts ≡ codes "fn(" ++ (parameters_text parameters ts ++ type_text result (drop (arrays_of parameters) ts)) ++ codes ")"
unfolding shape-the_row-Shape-0 hidden-the_row-Shape-0 hidden
function_is parameters result ts =
    let all : List Shape = items-the_row-Shape _ (hidden-the_row-Shape-1 parameters) in
    ap (λ x. codes "fn(" ++ (x ++ type_text result (drop (arrays_in (hidden-the_row-Shape-1 parameters)) ts)) ++ codes ")") (parameters_are (hidden-the_row-Shape-1 parameters) ts)
    ∙ ap (λ n. codes "fn(" ++ (parameters_text all ts ++ type_text result (drop n ts)) ++ codes ")") (arrays_in_items (hidden-the_row-Shape-1 parameters))
    ∙ ap (λ (xs : List Shape). codes "fn(" ++ (parameters_text xs ts ++ type_text result (drop (arrays_of xs) ts)) ++ codes ")") (items_hidden-the_row-Shape-1 parameters)

-- what a function leaves of the texts
pub function_left : (parameters : List Shape) (result : Shape) (ts : List (List ℕ))
    → drop (arrays result) (drop (arrays_of parameters) ts) ≡ drop (arrays (Function parameters result)) ts
function_left parameters result ts =
    drop-drop (arrays result) (arrays_of parameters) ts ∙ ap (λ n. drop n ts) (sym (arrays_function parameters result))
