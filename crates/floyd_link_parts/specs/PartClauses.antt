-- What private calls make one after the other.
use Rattle.std.specs.Prelude.{◌||◌, ℕ, List, [], ◌∷◌, ◌++◌, map, filter, Option, Some, None, bytes_eq, if◌then◌else◌}
use Rattle.std.specs.Map.{lookup}
use Rattle.floyd_clight.specs.declared.unit.ClightUnit.{ClightUnit}
use Rattle.floyd_clight.specs.declared.unit.Declared.{Declared}
use Rattle.floyd_clight.specs.declared.unit.Defined.{Defined}
use Rattle.floyd_clight.specs.declared.unit.Variable.{Variable}
use Rattle.floyd_assert_trees.specs.declared.spec.Funspec.{Funspec}
use Rattle.floyd_assert_trees.specs.declared.spec.Precondition.{Precondition}
use Rattle.floyd_specread_sources.specs.Tables.{put_new}
use Rattle.floyd_specread_trees.specs.Views.{has_own, spec_with}
use Rattle.floyd_specread_trees.specs.declared.declarations.Declaration.{Declaration}
use Rattle.floyd_specread_trees.specs.declared.modules.ModuleSpec.{ModuleSpec}
use Rattle.floyd_termread_scope.specs.Scopes.{Named}
use Rattle.floyd_goal_meaning.specs.declared.linked.LinkedFunction.{LinkedFunction}
use Rattle.floyd_goal_meaning.specs.declared.linked.LinkedVariable.{LinkedVariable}
use Rattle.floyd_link_names.specs.DuplicateClauses.{Names, is_in}
use Rattle.floyd_link_names.specs.Names.{has_contents, parameter_types}
use Rattle.floyd_link_parts.specs.Parts.{linked_variable, whole}

abbrev pub variables_behind : List LinkedVariable → List ClightUnit → List LinkedVariable
variables_behind all [] = all
variables_behind all (u ∷ us) = variables_behind (all ++ map linked_variable (filter has_contents u.variables)) us

-- specifications of their own by name, the first of each
abbrev pub Owns : Type 0
Owns = Named Funspec

abbrev pub with_own : Precondition → Declaration → Owns → Owns
with_own main_pre d table = if has_own d.kind then put_new d.name (spec_with main_pre d) table else table

abbrev pub with_owns : Precondition → List Declaration → Owns → Owns
with_owns main_pre [] table = table
with_owns main_pre (d ∷ ds) table = with_owns main_pre ds (with_own main_pre d table)

abbrev pub with_modules : Precondition → List ModuleSpec → Owns → Owns
with_modules main_pre [] table = table
with_modules main_pre (m ∷ ms) table = with_modules main_pre ms (with_owns main_pre m.declarations table)

-- ---- functions, with the table of specifications of their own

module _ (owns : Owns) where
  abbrev pub body_by : Defined → LinkedFunction
  body_by d = record {
    name = d.name;
    place = d.place;
    parameters = parameter_types d.parameters;
    result = d.result;
    own = lookup (bytes_eq d.name) owns;
    body = Some (whole d);
  }

  abbrev pub external_by : Declared → LinkedFunction
  external_by f = record {
    name = f.name;
    place = f.place;
    parameters = f.parameters;
    result = f.result;
    own = lookup (bytes_eq f.name) owns;
    body = None;
  }

  -- functions, and a table of their names
  abbrev pub Functions : Type 0
  Functions = List LinkedFunction × Names

  abbrev pub put_body : Defined → Functions → Functions
  put_body d fs = (fs.0 ++ body_by d ∷ [], put_new d.name tt fs.1)

  abbrev pub put_bodies : List Defined → Functions → Functions
  put_bodies [] fs = fs
  put_bodies (d ∷ ds) fs = put_bodies ds (put_body d fs)

  abbrev pub put_units : List ClightUnit → Functions → Functions
  put_units [] fs = fs
  put_units (u ∷ us) fs = put_units us (put_bodies u.defined fs)

  abbrev pub put_external : Names → Declared → Functions → Functions
  put_external defined f fs = if is_in defined f.name || is_in fs.1 f.name then fs else (fs.0 ++ external_by f ∷ [], put_new f.name tt fs.1)

  abbrev pub put_externals : Names → List Declared → Functions → Functions
  put_externals defined [] fs = fs
  put_externals defined (f ∷ more) fs = put_externals defined more (put_external defined f fs)

  abbrev pub put_declared : Names → List ClightUnit → Functions → Functions
  put_declared defined [] fs = fs
  put_declared defined (u ∷ us) fs = put_declared defined us (put_externals defined u.declared fs)
