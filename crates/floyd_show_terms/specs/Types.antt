-- How types of C are written, with the texts of the sizes of their arrays.
use Rattle.std.specs.Prelude.{ℕ, List, [], ◌∷◌, ◌++◌, codes, drop}
use Rattle.floyd_tree_sorts.specs.declared.shape.Shape.{Shape, Void, Int, Pointer', Array', Struct, Function', Row_of-Shape, end_of-Shape, more_of-Shape}
use Rattle.floyd_tree_sorts.specs.Table.{arrays, arrays_in}
use Rattle.floyd_show_terms.specs.Words.{kind_text}

-- the first of the texts
abbrev pub first_text : List (List ℕ) → List ℕ
first_text [] = []
first_text (t ∷ ts) = t

-- a type, where the sizes of its arrays are written so, from the outermost on, and those of parameters before those of the result
abbrev mutual
  pub type_text : Shape → List (List ℕ) → List ℕ
  type_text Void sizes = codes "void"
  type_text (Int kind) sizes = kind_text kind
  type_text (Struct tag) sizes = codes "struct " ++ tag
  type_text (Pointer' p (more_of-Shape target end_of-Shape)) sizes = codes "ptr(" ++ type_text target sizes ++ codes ")"
  type_text (Array' p (more_of-Shape item end_of-Shape)) sizes =
      codes "array(" ++ type_text item (drop 1 sizes) ++ codes ", " ++ first_text sizes ++ codes ")"
  type_text (Function' p parameters q (more_of-Shape result end_of-Shape)) sizes =
      codes "fn(" ++ (parameters_in parameters sizes ++ type_text result (drop (arrays_in parameters) sizes)) ++ codes ")"

  -- the parameters of a function, each with its mark behind it
  pub parameters_in : {n : _} → Row_of-Shape n → List (List ℕ) → List ℕ
  parameters_in end_of-Shape sizes = []
  parameters_in (more_of-Shape shape rest) sizes = type_text shape sizes ++ codes "; " ++ parameters_in rest (drop (arrays shape) sizes)
