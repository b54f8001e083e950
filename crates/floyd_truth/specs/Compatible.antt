-- What a pointer must be so that a value of a type may lie where it points, as far as offsets and paths tell.
use Rattle.std.specs.Prelude.{◌≡◌, ◌<◌, ◌+◌, ◌%◌, ◌^◌, ℕ, true, List, [], ◌∷◌, Option, Some, None, option_map, ℤ}
use Rattle.floyd_ctypes.specs.declared.ctype.CType.{CType}
use Rattle.floyd_ctypes.specs.declared.layout.Layout.{Layout}
use Rattle.floyd_ctypes.specs.Layout.{layout}
use Rattle.floyd_ctypes.specs.Path.{Step, Dot, At, is_legal}
use Rattle.floyd_ctypes.specs.Structs.{Structs}
use Rattle.floyd_tree_sorts.specs.declared.connectives.StepShape.{StepShape}
use Rattle.floyd_tree_sorts.specs.declared.connectives.StepShape.TheVariants.{Subscript, Field}
use Rattle.floyd_tree_sorts.specs.declared.shape.Shape.{Shape}
use Rattle.floyd_truth.specs.Types.{typed}

-- the path whose subscripts are these numbers; there is none where they are not as many
abbrev pub path_of : List StepShape → List ℤ → Option (List Step)
path_of [] [] = Some []
path_of [] (n ∷ ns) = None
path_of (Field name ∷ steps) ns = option_map (λ path. Dot name ∷ path) (path_of steps ns)
path_of (Subscript ∷ steps) [] = None
path_of (Subscript ∷ steps) (n ∷ ns) = option_map (λ path. At n ∷ path) (path_of steps ns)

-- The offset is aligned for the type, the offset plus the size is below 2 ^ 64, and the path is legal: it has a nested
-- type, and each subscript is at least 0 and below the size of its array.
pub record FitsType (structs : Structs) (t : CType) (path : List Step) (offset : ℕ) : Type 0 where
  pub laid : Layout
  pub sized : layout structs t ≡ Some laid
  pub aligned : offset % laid.align ≡ 0
  pub within : offset + laid.size < 2 ^ 64
  pub legal : is_legal structs t path ≡ true

-- the same of a shape with the sizes of its arrays, none of which is negative, and a path with its subscripts
pub record IsCompatible (structs : Structs) (shape : Shape) (sizes : List ℤ) (steps : List StepShape) (subscripts : List ℤ) (offset : ℕ) : Type 0 where
  pub whole : CType
  pub path : List Step
  pub of_shape : typed shape sizes ≡ Some whole
  pub of_steps : path_of steps subscripts ≡ Some path
  pub fits : FitsType structs whole path offset
