-- A function's body among the names of a program.
use Rattle.std.specs.Prelude.{◌≡◌, ℕ, true, List, ◌++◌, map, is_some}
use Rattle.std.specs.List.{AllByRecursion}
use Rattle.floyd_ctypes.specs.declared.ctype.CType.{CType}
use Rattle.floyd_ctypes.specs.Layout.{size, type_fits}
use Rattle.floyd_ctypes.specs.Structs.{Structs}
use Rattle.floyd_clight.specs.declared.unit.Defined.{Defined}
use Rattle.floyd_clight.specs.declared.unit.Local.{Local}
use Rattle.floyd_tree_values.specs.Rules.{AreDistinct}
use Rattle.floyd_clight_typing.specs.Expressions.{Names}
use Rattle.floyd_clight_typing.specs.Statements.{AreExpressionsTyped}

abbrev pub local_names : List Local → List (List ℕ)
local_names locals = map (λ (l : Local). l.name) locals

-- parameters are temporaries too
abbrev pub names_in : List (List ℕ × CType) → Defined → Names
names_in file d = record { temporaries = d.parameters ++ d.temporaries; blocks = d.blocks; file = file }

-- an object of the type has a size within the limit
abbrev pub IsObject : Structs → CType → Type 0
IsObject structs t = (is_some (size structs t) ≡ true) × (type_fits structs t ≡ true)

-- Its variables have names of their own, those with blocks have sizes, and the types of its expressions follow from those
-- of their parts. So each variable and each function of the file that it mentions is one of these.
pub record IsBody (structs : Structs) (file : List (List ℕ × CType)) (d : Defined) : Type 0 where
  pub distinct : AreDistinct (local_names (d.parameters ++ d.temporaries) ++ local_names d.blocks)
  pub sized : AllByRecursion (λ (l : Local). IsObject structs l.ctype) d.blocks
  pub typed : AreExpressionsTyped structs (names_in file d) d.result d.body
