-- A linked program as one of the machine, in blocks for its names, and what assertions speak about in it.
use Rattle.std.specs.Prelude.{ℕ, ◌==◌, ◌&&◌, Bool, false, if◌then◌else◌, List, [], ◌∷◌, ◌++◌, map, Option, Some, None, is_some, unwrap_or, find, bytes_eq, codes}
use Rattle.std.specs.List.{list_any}
use Rattle.std.specs.Option.{option_map_or}
use Rattle.floyd_int.specs.declared.kinds.IntKind.TheVariants.{I32}
use Rattle.floyd_int.specs.declared.kinds.Value.{Value}
use Rattle.floyd_int.specs.declared.kinds.Value.TheVariants.{Vundef, Vint, Vlong, Vptr}
use Rattle.floyd_ctypes.specs.declared.ctype.CType.{CType, Int}
use Rattle.floyd_ctypes.specs.Layout.{size}
use Rattle.floyd_ctypes.specs.Structs.{Structs}
use Rattle.floyd_clight.specs.declared.unit.Defined.{Defined}
use Rattle.floyd_clight_memory.specs.Memory.{Readable, Writable}
use Rattle.floyd_clight_machine.specs.Looking.{Ident}
use Rattle.floyd_clight_machine.specs.Machine.{Program, GlobalBlock, FunctionBlock, Def, Own, Ext, function_at}
use Rattle.floyd_tree_values.specs.Funs.{Fun}
use Rattle.floyd_tree_values.specs.Means.{Defs}
use Rattle.floyd_assert_trees.specs.declared.items.Pred.{Pred}
use Rattle.floyd_assert_trees.specs.declared.spec.Funspec.{Funspec}
use Rattle.floyd_assert_trees.specs.Meanings.{value_defs}
use Rattle.floyd_assert_meaning.specs.Settings.{Setting}
use Rattle.floyd_goal_meaning.specs.declared.linked.Linked.{Linked}
use Rattle.floyd_goal_meaning.specs.declared.linked.LinkedFunction.{LinkedFunction}
use Rattle.floyd_goal_meaning.specs.declared.linked.LinkedVariable.{LinkedVariable}
use Rattle.floyd_goal_meaning.specs.declared.linked.Module.{Module}

-- A further external function, which no source has. It may be used in several ways, each with a specification.
pub record Further : Type 0 where
  pub name : Ident
  pub parameters : List CType
  pub result : CType
  pub specs : List Funspec

-- a block for each name of the file
abbrev pub Places : Type 0
Places = Ident → ℕ

abbrev pub main : Ident
main = codes "main"

abbrev pub int : CType
int = Int I32

abbrev pub linked_function : Linked → Ident → Option LinkedFunction
linked_function L f = find (λ (g : LinkedFunction). bytes_eq f g.name) L.functions

-- a variable that is read-only is Readable, and every other one Writable
abbrev pub variable_block : Structs → Places → LinkedVariable → GlobalBlock
variable_block structs place v = record {
  name = v.name;
  block = place v.name;
  size = unwrap_or (size structs v.ctype) 0;
  perm = if v.read_only then Readable else Writable;
}

abbrev pub def_of : LinkedFunction → Option Defined → Def
def_of f None = Ext (record { params = f.parameters; result = f.result })
def_of f (Some d) = Own (record { params = d.parameters; result = d.result; locals = d.blocks; body = d.body })

abbrev pub function_block : Places → LinkedFunction → FunctionBlock
function_block place f = record { name = f.name; block = place f.name; def = def_of f f.body }

abbrev pub further_block : Places → Further → FunctionBlock
further_block place f = record { name = f.name; block = place f.name; def = Ext (record { params = f.parameters; result = f.result }) }

-- the program, with further external functions, in these blocks
abbrev pub program : Linked → List Further → Places → Program
program L more place = record {
  structs = L.structs;
  variables = map (variable_block L.structs place) L.variables;
  functions = map (function_block place) L.functions ++ map (further_block place) more;
}

-- items, and those of others whose names none of them has
abbrev pub with_new : {A : Type 0} → (A → List ℕ) → List A → List A → List A
with_new name all [] = all
with_new name all (a ∷ others) = with_new name (if list_any (λ b. bytes_eq (name a) (name b)) all then all else all ++ a ∷ []) others

-- the items of all modules, each once
abbrev pub of_modules : {A : Type 0} → (A → List ℕ) → (Module → List A) → List A → List Module → List A
of_modules name items all [] = all
of_modules name items all (m ∷ modules) = of_modules name items (with_new name all (items m)) modules

-- the FUNs and the PREDs of all modules; one that several modules hold is the same in all
abbrev pub funs_of : Linked → List Fun
funs_of L = of_modules (λ f. f.name) (λ (m : Module). (value_defs m.defs).funs) [] L.modules

abbrev pub preds_of : Linked → List (List ℕ × Pred)
preds_of L = of_modules (λ p. p.0) (λ (m : Module). m.defs.preds) [] L.modules

-- the structs and FUNs by which terms have values
abbrev pub defs_of : Linked → Defs
defs_of L = record { structs = L.structs; funs = funs_of L }

abbrev pub has_name : List ℕ → Option Funspec → Bool
has_name name None = false
has_name name (Some spec) = option_map_or (bytes_eq name) spec.name false

-- the value is the start of the block of a function whose own specification was declared as the SPEC of that name
abbrev pub has_spec : Linked → Places → List ℕ → Value → Bool
has_spec L place name Vundef = false
has_spec L place name (Vint bits) = false
has_spec L place name (Vlong bits) = false
has_spec L place name (Vptr block offset) = offset == 0 && list_any (λ (f : LinkedFunction). place f.name == block && has_name name f.own) L.functions

-- what assertions speak about in the program
abbrev pub setting : Linked → List Further → Places → Setting
setting L more place = record {
  defs = defs_of L;
  preds = preds_of L;
  block_of = place;
  is_function = λ block. is_some (function_at (program L more place) block);
  has_spec = has_spec L place;
}
