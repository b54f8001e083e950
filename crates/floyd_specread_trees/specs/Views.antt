-- What a module's proofs see of its specification: the specification that it gives each function, and the SPEC items.
use Rattle.std.specs.Prelude.{ℕ, Bool, true, false, if◌then◌else◌, List, [], ◌∷◌, ◌++◌, is_some, bytes_eq}
use Rattle.std.specs.Map.{lookup}
use Rattle.floyd_assert_trees.specs.declared.spec.Funspec.{Funspec}
use Rattle.floyd_assert_trees.specs.declared.spec.Precondition.{Precondition}
use Rattle.floyd_assert_trees.specs.declared.spec.SpecTable.{SpecTable}
use Rattle.floyd_specread_trees.specs.declared.declarations.Declaration.{Declaration}
use Rattle.floyd_specread_trees.specs.declared.declarations.DeclarationKind.{DeclarationKind}
use Rattle.floyd_specread_trees.specs.declared.declarations.DeclarationKind.TheVariants as k
use Rattle.floyd_specread_trees.specs.declared.modules.ModuleSpec.{ModuleSpec}

-- the specification, where MAIN_PRE stands for this
abbrev pub spec_with : Precondition → Declaration → Funspec
spec_with main_pre d = if d.main_pre then record d.spec { pre = main_pre } else d.spec

-- behind the others, unless one of that name is there
abbrev pub with_first : List ℕ → Funspec → List (List ℕ × Funspec) → List (List ℕ × Funspec)
with_first name spec specs = if is_some (lookup (bytes_eq name) specs) then specs else specs ++ (name, spec) ∷ []

-- these, and that of each function behind them, by its first declaration
abbrev pub functions_with : Precondition → List Declaration → List (List ℕ × Funspec) → List (List ℕ × Funspec)
functions_with main_pre [] specs = specs
functions_with main_pre (d ∷ ds) specs = functions_with main_pre ds (with_first d.name (spec_with main_pre d) specs)

abbrev pub spec_table : Precondition → ModuleSpec → SpecTable
spec_table main_pre m = record { functions = functions_with main_pre m.declarations []; items = m.specs }

-- the function has a body in the module
abbrev pub is_plain : DeclarationKind → Bool
is_plain k.Plain = true
is_plain k.Import = false
is_plain (k.ImportBy by) = false
is_plain k.Extern = false

-- the specification is the function's own
abbrev pub has_own : DeclarationKind → Bool
has_own k.Plain = true
has_own k.Import = false
has_own (k.ImportBy by) = false
has_own k.Extern = true

-- it is one beside the function's own
abbrev pub is_by : DeclarationKind → Bool
is_by k.Plain = false
is_by k.Import = false
is_by (k.ImportBy by) = true
is_by k.Extern = false
