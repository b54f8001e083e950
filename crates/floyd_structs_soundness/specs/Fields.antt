-- Structs whose fields have different names.
use Rattle.std.specs.Prelude.{◌≡◌, ℕ, false, List, [], ◌∷◌, Some, bytes_eq}
use Rattle.std.specs.List.{AllByRecursion}
use Rattle.floyd_ctypes.specs.declared.field.Field.{Field}
use Rattle.floyd_ctypes.specs.Structs.{Structs, fields_of}
use Rattle.floyd_assert_trees.specs.declared.items.Defs.{Defs}
use Rattle.floyd_goal_trees.specs.declared.args.Args.{Args}
use Rattle.floyd_goal_trees.specs.declared.goal.Goal.{Goal}

abbrev pub NamesDiffer : List Field → Type 0
NamesDiffer [] = Unit {0}
NamesDiffer (f ∷ fields) = AllByRecursion (λ (g : Field). bytes_eq g.name f.name ≡ false) fields × NamesDiffer fields

-- no struct has two fields of one name
abbrev pub FieldsDiffer : Structs → Type 0
FieldsDiffer structs = (tag : List ℕ) (fields : List Field) → fields_of structs tag ≡ Some fields → NamesDiffer fields

abbrev pub IsOfStructs : Defs → Goal → Args → Type 0
IsOfStructs defs goal args = FieldsDiffer defs.structs
