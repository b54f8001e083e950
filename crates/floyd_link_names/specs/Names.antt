-- The names of the file that the sources of a project declare and define.
use Rattle.std.specs.Prelude.{Bool, false, not, ℕ, List, ◌++◌, map, filter, find, Option, is_some, option_map, bytes_eq}
use Rattle.std.specs.List.{list_any}
use Rattle.std.specs.Option.{option_map_or}
use Rattle.floyd_ctypes.specs.declared.ctype.CType.{CType, Function}
use Rattle.floyd_clight.specs.declared.unit.ClightUnit.{ClightUnit}
use Rattle.floyd_clight.specs.declared.unit.Declared.{Declared}
use Rattle.floyd_clight.specs.declared.unit.Defined.{Defined}
use Rattle.floyd_clight.specs.declared.unit.Local.{Local}
use Rattle.floyd_clight.specs.declared.unit.Variable.{Variable}
use Rattle.floyd_elab_names.specs.Types.{same_type}
use Rattle.floyd_link_names.specs.declared.entries.Entry.{Entry}

abbrev pub of_variable : Variable → Entry
of_variable v = record { name = v.name; place = v.place; ctype = v.ctype }

abbrev pub of_declared : Declared → Entry
of_declared f = record { name = f.name; place = f.place; ctype = Function f.parameters f.result }

abbrev pub parameter_types : List Local → List CType
parameter_types ps = map (λ (p : Local). p.ctype) ps

abbrev pub of_defined : Defined → Entry
of_defined f = record { name = f.name; place = f.place; ctype = Function (parameter_types f.parameters) f.result }

-- a variable with contents is defined
abbrev pub has_contents : Variable → Bool
has_contents v = is_some v.contents

abbrev pub declared_in : ClightUnit → List Entry
declared_in u = map of_variable u.variables ++ map of_declared u.declared

abbrev pub defined_in : ClightUnit → List Entry
defined_in u = map of_variable (filter has_contents u.variables) ++ map of_defined u.defined

abbrev pub is_named : List ℕ → Entry → Bool
is_named x e = bytes_eq x e.name

-- one of them has the name
abbrev pub has : List Entry → List ℕ → Bool
has es x = list_any (is_named x) es

-- the type of the first that has the name
abbrev pub type_in : List Entry → List ℕ → Option CType
type_in es x = option_map (λ (e : Entry). e.ctype) (find (is_named x) es)

abbrev pub is_other : CType → Option CType → Bool
is_other t found = option_map_or (λ u. not (same_type t u)) found false

-- the first that has its name has another type; a function's and a variable's always differ
abbrev pub differs : List Entry → Entry → Bool
differs es e = is_other e.ctype (type_in es e.name)
