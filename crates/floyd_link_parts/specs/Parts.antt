-- The variables and functions of a linked program.
use Rattle.std.specs.Prelude.{Bool, false, ◌&&◌, ◌||◌, ℕ, List, [], ◌∷◌, ◌++◌, map, filter, find, Option, Some, None, option_map, unwrap_or, bytes_eq, if◌then◌else◌}
use Rattle.std.specs.List.{flat_map, list_any}
use Rattle.floyd_int.specs.declared.kinds.IntKind.TheVariants.{I32}
use Rattle.floyd_int.specs.declared.kinds.Value.TheVariants.{Vint}
use Rattle.floyd_ctypes.specs.declared.ctype.CType.{CType, Int}
use Rattle.floyd_clight.specs.declared.initial.Initial.{Absent}
use Rattle.floyd_clight.specs.declared.syntax.Expr.{Const}
use Rattle.floyd_clight.specs.declared.syntax.Stmt.{Return, Seq}
use Rattle.floyd_clight.specs.declared.unit.ClightUnit.{ClightUnit}
use Rattle.floyd_clight.specs.declared.unit.Declared.{Declared}
use Rattle.floyd_clight.specs.declared.unit.Defined.{Defined}
use Rattle.floyd_clight.specs.declared.unit.Variable.{Variable}
use Rattle.floyd_assert_trees.specs.declared.spec.Funspec.{Funspec}
use Rattle.floyd_assert_trees.specs.declared.spec.Precondition.{Precondition}
use Rattle.floyd_specread_trees.specs.Views.{has_own, spec_with}
use Rattle.floyd_specread_trees.specs.declared.declarations.Declaration.{Declaration}
use Rattle.floyd_specread_trees.specs.declared.modules.ModuleSpec.{ModuleSpec}
use Rattle.floyd_goal_meaning.specs.declared.linked.LinkedFunction.{LinkedFunction}
use Rattle.floyd_goal_meaning.specs.declared.linked.LinkedVariable.{LinkedVariable}
use Rattle.floyd_link_names.specs.Main.{is_main}
use Rattle.floyd_link_names.specs.declared.entries.Entry.{Entry}
use Rattle.floyd_link_names.specs.Names.{defined_in, has, has_contents, parameter_types}

-- ---- variables

-- none is read-only as long as a const at the top of a global variable's type is refused
abbrev pub linked_variable : Variable → LinkedVariable
linked_variable v = record { name = v.name; ctype = v.ctype; contents = unwrap_or v.contents Absent; read_only = false }

-- those that are defined, module by module in the order of their definitions
abbrev pub linked_variables : List ClightUnit → List LinkedVariable
linked_variables units = flat_map (λ (u : ClightUnit). map linked_variable (filter has_contents u.variables)) units

-- ---- functions

abbrev pub is_own_of : List ℕ → Declaration → Bool
is_own_of x d = bytes_eq x d.name && has_own d.kind

-- the specification that its module declares, or an EXTERN
abbrev pub own_of : Precondition → List ModuleSpec → List ℕ → Option Funspec
own_of main_pre modules x = option_map (spec_with main_pre) (find (is_own_of x) (flat_map (λ (m : ModuleSpec). m.declarations) modules))

-- main ends with `return 0;`
abbrev pub whole : Defined → Defined
whole d = if is_main d then record d { body = Seq (d.body ∷ Return (Some (Const (Vint 0) (Int I32))) ∷ []) } else d

module _ (main_pre : Precondition) (modules : List ModuleSpec) where
  abbrev pub with_body : Defined → LinkedFunction
  with_body d = record {
    name = d.name;
    place = d.place;
    parameters = parameter_types d.parameters;
    result = d.result;
    own = own_of main_pre modules d.name;
    body = Some (whole d);
  }

  abbrev pub external : Declared → LinkedFunction
  external f = record {
    name = f.name;
    place = f.place;
    parameters = f.parameters;
    result = f.result;
    own = own_of main_pre modules f.name;
    body = None;
  }

  abbrev pub has_function : List LinkedFunction → List ℕ → Bool
  has_function all x = list_any (λ (g : LinkedFunction). bytes_eq x g.name) all

  -- those that no module defines, each once, behind others
  abbrev pub with_externals : List Entry → List Declared → List LinkedFunction → List LinkedFunction
  with_externals defined [] all = all
  with_externals defined (f ∷ fs) all = with_externals defined fs (if has defined f.name || has_function all f.name then all else all ++ external f ∷ [])

  -- those with a body, module by module in the order of their definitions, and then the external ones
  abbrev pub linked_functions : List ClightUnit → List LinkedFunction
  linked_functions units =
      with_externals (flat_map defined_in units) (flat_map (λ (u : ClightUnit). u.declared) units) (flat_map (λ (u : ClightUnit). map with_body u.defined) units)
