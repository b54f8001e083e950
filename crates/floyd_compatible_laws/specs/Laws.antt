-- Where an object may stand, by what memory and by what formulas say, and that what is at a path of it may stand there.
use Rattle.std.specs.Prelude.{◌≡◌, ◌↔◌, ◌+◌, ℕ, ℤ, pos, true, length, List, [], Some}
use Rattle.floyd_int.specs.declared.kinds.Value.TheVariants.{Vptr}
use Rattle.floyd_ctypes.specs.declared.ctype.CType.{CType}
use Rattle.floyd_ctypes.specs.Path.{Step}
use Rattle.floyd_ctypes.specs.Structs.{Structs}
use Rattle.floyd_tree_sorts.specs.declared.connectives.StepShape.{StepShape}
use Rattle.floyd_tree_sorts.specs.Table.{arrays}
use Rattle.floyd_truth.specs.Compatible.{FitsType, IsCompatible, path_of}
use Rattle.floyd_assert_cells.specs.Types.{Sized, compatible, offset_at, sized, type_at}

-- of a type of C
abbrev pub CompatiblePlacesAgree : Type 0
CompatiblePlacesAgree = (structs : Structs) (t : CType) (path : List Step) (block offset : ℕ) → (compatible structs (sized t) path (Vptr block offset) ≡ true) ↔ FitsType structs t path offset

-- and of a type whose arrays have sizes, one each, at a path with subscripts
abbrev pub CompatibleObjectsAgree : Type 0
CompatibleObjectsAgree =
    (structs : Structs) (t : Sized) (steps : List StepShape) (subscripts : List ℤ) (path : List Step) (block offset : ℕ) →
    length t.sizes ≡ arrays t.shape → path_of steps subscripts ≡ Some path →
    (compatible structs t path (Vptr block offset) ≡ true) ↔ IsCompatible structs t.shape t.sizes steps subscripts offset

-- What is at a path of an object is an object at its own address.
abbrev pub PartsAreObjects : Type 0
PartsAreObjects =
    (structs : Structs) (t u : Sized) (path : List Step) (block offset shift : ℕ) →
    compatible structs t path (Vptr block offset) ≡ true → type_at structs t path ≡ Some u → offset_at structs t path ≡ Some (pos shift) →
    compatible structs u [] (Vptr block (offset + shift)) ≡ true
