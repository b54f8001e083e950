-- The modules of a linked program: what their proofs stand on.
use Rattle.std.specs.Prelude.{ℕ, ◌+◌, List, [], ◌∷◌}
use Rattle.std.specs.List.{flat_map}
use Rattle.floyd_ctypes.specs.Structs.{Structs}
use Rattle.floyd_assert_trees.specs.declared.items.Defs.{Defs}
use Rattle.floyd_assert_trees.specs.declared.spec.Funspec.{Funspec}
use Rattle.floyd_assert_trees.specs.declared.spec.Precondition.{Precondition}
use Rattle.floyd_assert_trees.specs.declared.spec.SpecTable.{SpecTable}
use Rattle.floyd_specread_sources.specs.Tables.{joined, put_new}
use Rattle.floyd_specread_trees.specs.Views.{functions_with}
use Rattle.floyd_specread_trees.specs.declared.declarations.Declaration.{Declaration}
use Rattle.floyd_specread_trees.specs.declared.declarations.DeclarationKind.{DeclarationKind}
use Rattle.floyd_specread_trees.specs.declared.declarations.DeclarationKind.TheVariants as k
use Rattle.floyd_specread_trees.specs.declared.modules.ModuleSpec.{ModuleSpec}
use Rattle.floyd_termread_scope.specs.Scopes.{Named}
use Rattle.floyd_goal_meaning.specs.declared.linked.ImportBy.{ImportBy}
use Rattle.floyd_goal_meaning.specs.declared.linked.LinkedFunction.{LinkedFunction}
use Rattle.floyd_goal_meaning.specs.declared.linked.LinkedVariable.{LinkedVariable}
use Rattle.floyd_goal_meaning.specs.declared.linked.Module.{Module}

abbrev pub Names : Type 0
Names = Named (Unit {0})

abbrev pub with_variables : List LinkedVariable → Names → Names
with_variables [] names = names
with_variables (v ∷ vs) names = with_variables vs (put_new v.name tt names)

abbrev pub with_functions : List LinkedFunction → Names → Names
with_functions [] names = names
with_functions (f ∷ fs) names = with_functions fs (put_new f.name tt names)

-- the names of the whole program
abbrev pub program_names : List LinkedVariable → List LinkedFunction → Names
program_names vs fs = with_functions fs (with_variables vs [])

-- items by name, each once
abbrev pub once : {A : Type 0} → Named A → Named A
once items = joined items []

-- an import with a specification of its own
abbrev pub by_of : Declaration → DeclarationKind → List ImportBy
by_of d k.Plain = []
by_of d k.Import = []
by_of d (k.ImportBy by) = record { name = d.name; place = d.place; terms = by.terms; frame = by.frame } ∷ []
by_of d k.Extern = []

abbrev pub imports_of : List Declaration → List ImportBy
imports_of ds = flat_map (λ (d : Declaration). by_of d d.kind) ds

-- over the structs and the names of the whole program, with no lemma proved yet
abbrev pub module_defs : Structs → Names → ℕ → Defs → Defs
module_defs structs names home defs = record {
  structs = structs;
  globals = names;
  funs = once defs.funs;
  preds = once defs.preds;
  lemmas = once defs.lemmas;
  proved = [];
  home = home;
}

-- the specifications that the module gives functions, and its SPEC items
abbrev pub module_specs : Precondition → List Declaration → Named Funspec → SpecTable
module_specs main_pre ds items = record { functions = functions_with main_pre ds []; items = once items }

module _ (structs : Structs) (names : Names) (main_pre : Precondition) where
  abbrev pub linked_module : ℕ → ModuleSpec → Module
  linked_module home m = record { defs = module_defs structs names home m.defs; specs = module_specs main_pre m.declarations m.specs; imports = imports_of m.declarations }

  abbrev pub modules_from : ℕ → List ModuleSpec → List Module
  modules_from home [] = []
  modules_from home (m ∷ ms) = linked_module home m ∷ modules_from (home + 1) ms

  -- numbered from 0 in the order of the project
  abbrev pub linked_modules : List ModuleSpec → List Module
  linked_modules ms = modules_from 0 ms
