-- Where the variables lie that a function sees: those of the file, and those that it declares itself.
use Rattle.std.specs.Prelude.{◌≡◌, ℕ, ◌<◌, ◌^◌, not, true, List, ◌∷◌, ◌++◌, length, Option, Some, None}
use Rattle.std.specs.List.{list_all}
use Rattle.floyd_ctypes.specs.declared.ctype.CType.{CType}
use Rattle.floyd_elab_names.specs.declared.meaning.Storage.TheVariants as kept
use Rattle.floyd_clight.specs.declared.syntax.Binding.{Binding}
use Rattle.floyd_clight.specs.declared.syntax.Binding.TheVariants.{Block, File}
use Rattle.floyd_clight.specs.declared.syntax.Expr.{Expr, Var}
use Rattle.floyd_elab_expressions.specs.Expressions.{variable_of}
use Rattle.floyd_elab_statements.specs.Locals.{name_among}
use Rattle.floyd_elab_laws.specs.Laws.{has_mark}

-- a variable of the file, by its name; or one that the function declares, by its name and those that it declares before
pub data Seen : Type 0 where
  OfFile : (x : List ℕ) → Seen
  Own : (before : List (List ℕ)) → (x : List ℕ) → Seen

-- its place in Clight, if it has one
abbrev pub place : Seen → Binding × List ℕ
place (OfFile x) = (File, x)
place (Own before x) = (Block, name_among before x)

-- a function that declares these names, in this order, has it in sight somewhere
abbrev pub IsSeen : List (List ℕ) → Seen → Type 0
IsSeen names (OfFile x) = Unit {0}
IsSeen names (Own before x) = (rest : List (List ℕ)) × (names ≡ before ++ x ∷ rest)

-- Distinct variables that a function sees are distinct places, also where they have one name.
abbrev pub DistinctVariablesAreDistinctPlaces : Type 0
DistinctVariablesAreDistinctPlaces =
    (names : List (List ℕ)) (v w : Seen) → list_all (λ x. not (has_mark x)) names ≡ true → length names < 2 ^ 64 → IsSeen names v → IsSeen names w → place v ≡ place w → v ≡ w

-- the place that a variable of Clight names
abbrev pub place_in : Expr → Option (Binding × List ℕ)
place_in (Var bound x t) = Some (bound, x)
place_in e = None

-- Elaboration names the place of a variable: of one of the file, and of one of the function's own with a block.
abbrev pub FileVariablesHaveTheirPlaces : Type 0
FileVariablesHaveTheirPlaces = (x : List ℕ) (t : CType) → place_in (variable_of kept.Global x t) ≡ Some (place (OfFile x))

abbrev pub OwnVariablesHaveTheirPlaces : Type 0
OwnVariablesHaveTheirPlaces =
    (before : List (List ℕ)) (x : List ℕ) (t : CType) → place_in (variable_of kept.Block (name_among before x) t) ≡ Some (place (Own before x))
