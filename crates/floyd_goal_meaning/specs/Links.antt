-- What a linked program has of what a module's proofs stand on.
use Rattle.std.specs.Prelude.{◌≡◌, ℕ, true, List, [], ◌∷◌, ◌++◌, map, Some, is_some, bytes_eq}
use Rattle.std.specs.Map.{lookup}
use Rattle.floyd_ctypes.specs.declared.ctype.CType.{CType}
use Rattle.floyd_clight_machine.specs.Looking.{Ident}
use Rattle.floyd_clight_runs.specs.Starts.{AllDiffer, function_blocks, variable_blocks}
use Rattle.floyd_tree_sorts.specs.declared.heads.Head.TheVariants.{Literal}
use Rattle.floyd_tree.specs.Plain.{At, Done}
use Rattle.floyd_tree.specs.Types.{SizedType}
use Rattle.floyd_tree_values.specs.Funs.{Fun, fun_of}
use Rattle.floyd_tree_values.specs.Rules.{DefsKeep, IsOneOf}
use Rattle.floyd_assert_cells.specs.Types.{shape_of, sizes_of}
use Rattle.floyd_assert_trees.specs.declared.items.Defs.{Defs}
use Rattle.floyd_assert_trees.specs.declared.items.Pred.{Pred}
use Rattle.floyd_assert_trees.specs.declared.spec.Funspec.{Funspec}
use Rattle.floyd_assert_trees.specs.declared.spec.SpecTable.{SpecTable}
use Rattle.floyd_assert_trees.specs.Meanings.{value_defs}
use Rattle.floyd_assert_meaning.specs.Same.{SameFunspec}
use Rattle.floyd_goal_meaning.specs.declared.linked.Linked.{Linked}
use Rattle.floyd_goal_meaning.specs.declared.linked.LinkedFunction.{LinkedFunction}
use Rattle.floyd_goal_meaning.specs.declared.linked.LinkedVariable.{LinkedVariable}
use Rattle.floyd_goal_meaning.specs.Programs.{Further, Places, defs_of, funs_of, linked_function, preds_of, program}

-- the type is that of C, whose arrays have literal sizes
pub record TypeIs (t : SizedType) (c : CType) : Type 0 where
  pub shape : t.shape ≡ shape_of c
  pub sizes : t.sizes ≡ map (λ n. At (Literal n) Done) (sizes_of c)

abbrev pub TypesAre : List SizedType → List CType → Type 0
TypesAre [] [] = Unit {0}
TypesAre [] (c ∷ cs) = ⊥
TypesAre (t ∷ ts) [] = ⊥
TypesAre (t ∷ ts) (c ∷ cs) = TypeIs t c × TypesAre ts cs

-- the specification has the function's types
pub record IsOfFunction (spec : Funspec) (g : LinkedFunction) : Type 0 where
  pub params : TypesAre spec.params g.parameters
  pub result : TypeIs spec.result g.result

abbrev pub names_of : Linked → List (List ℕ)
names_of L = map (λ (v : LinkedVariable). v.name) L.variables ++ map (λ (f : LinkedFunction). f.name) L.functions

-- the specification of the SPEC of a name, as one that is declared with it
abbrev pub named : List ℕ → Funspec → Funspec
named name spec = record spec { name = Some name }

-- The program's FUNs keep the rules, and it has what a module's proofs stand on: its structs, names, FUNs and PREDs; each function for which the module
-- sees a specification, with its types; where that carries the name of a SPEC, the function's own does; and a function
-- whose own specification carries the name of a SPEC that the module sees has the specification of that SPEC.
pub record Has (L : Linked) (defs : Defs) (specs : SpecTable) : Type 0 where
  pub rules : DefsKeep (defs_of L)
  pub structs : L.structs ≡ defs.structs
  pub globals : (x : List ℕ) → is_some (lookup (bytes_eq x) defs.globals) ≡ true → IsOneOf (names_of L) x
  pub funs : (x : List ℕ) (f : Fun) → fun_of (value_defs defs).funs x ≡ Some f → fun_of (funs_of L) x ≡ Some f
  pub preds : (x : List ℕ) (p : Pred) → lookup (bytes_eq x) defs.preds ≡ Some p → lookup (bytes_eq x) (preds_of L) ≡ Some p
  pub functions : (f : Ident) (spec : Funspec) → lookup (bytes_eq f) specs.functions ≡ Some spec → (g : LinkedFunction) × (linked_function L f ≡ Some g) × IsOfFunction spec g
  pub declared : (f : Ident) (g : LinkedFunction) (spec : Funspec) (name : List ℕ) → lookup (bytes_eq f) specs.functions ≡ Some spec → spec.name ≡ Some name → linked_function L f ≡ Some g
      → (own : Funspec) × (g.own ≡ Some own) × (own.name ≡ Some name)
  pub items : (f : Ident) (g : LinkedFunction) (own item : Funspec) (name : List ℕ) → linked_function L f ≡ Some g → g.own ≡ Some own → own.name ≡ Some name → lookup (bytes_eq name) specs.items ≡ Some item
      → SameFunspec own (named name item)

-- the names of the file have distinct blocks
abbrev pub AreApart : Linked → List Further → Places → Type 0
AreApart L more place = AllDiffer (variable_blocks (program L more place) ++ function_blocks (program L more place))
