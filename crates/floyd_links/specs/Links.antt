-- What a linked program is: what a link of modules gives.
use Rattle.std.specs.Prelude.{◌≡◌, ◌⊎◌, ℕ, ◌+◌, true, List, [], ◌∷◌, ◌++◌, map, Some, None, is_some, bytes_eq}
use Rattle.std.specs.List.{AllByRecursion}
use Rattle.std.specs.Map.{lookup}
use Rattle.floyd_ctypes.specs.declared.ctype.CType.{CType, Function}
use Rattle.floyd_clight.specs.declared.unit.Defined.{Defined}
use Rattle.floyd_clight.specs.declared.unit.Local.{Local}
use Rattle.floyd_clight_machine.specs.Looking.{Ident}
use Rattle.floyd_clight_memory.specs.Memory.{nth}
use Rattle.floyd_clight_typing.specs.Bodies.{IsBody, IsObject}
use Rattle.floyd_clight_typing.specs.Contents.{AreOf}
use Rattle.floyd_tree_values.specs.Rules.{AreDistinct, IsOneOf}
use Rattle.floyd_assert_trees.specs.declared.items.Fun.{Fun}
use Rattle.floyd_assert_trees.specs.declared.items.Lemma.{Lemma}
use Rattle.floyd_assert_trees.specs.declared.items.Pred.{Pred}
use Rattle.floyd_assert_trees.specs.declared.spec.Funspec.{Funspec}
use Rattle.floyd_assert_meaning.specs.Same.{SameFunspec}
use Rattle.floyd_goal_forms.specs.Assertions.{PartsFit, PredicatesOf}
use Rattle.floyd_goal_forms.specs.Items.{ItemsFit}
use Rattle.floyd_goal_forms.specs.Terms.{scope_with, TermsFit}
use Rattle.floyd_assert_trees.specs.declared.binder.Binder.{Binder}
use Rattle.floyd_goal_meaning.specs.declared.linked.ImportBy.{ImportBy}
use Rattle.floyd_goal_meaning.specs.declared.linked.Linked.{Linked}
use Rattle.floyd_goal_meaning.specs.declared.linked.LinkedFunction.{LinkedFunction}
use Rattle.floyd_goal_meaning.specs.declared.linked.LinkedVariable.{LinkedVariable}
use Rattle.floyd_goal_meaning.specs.declared.linked.Module.{Module}
use Rattle.floyd_goal_meaning.specs.Links.{IsOfFunction, named, names_of}
use Rattle.floyd_goal_meaning.specs.Programs.{int, linked_function, main}
use Rattle.floyd_links.specs.Imports.{first_goal, is_within_limits, second_goal}
use Rattle.floyd_links.specs.MainPre.{main_pre}

-- ---- functions and variables

-- the variables and functions of the program with their types
abbrev pub file_types : Linked → List (List ℕ × CType)
file_types L = map (λ (v : LinkedVariable). (v.name, v.ctype)) L.variables ++ map (λ (f : LinkedFunction). (f.name, Function f.parameters f.result)) L.functions

-- The body is that of the function of its name and type. The types of its expressions follow from those of their parts, and
-- what it mentions is of the program.
pub record IsBodyOf (L : Linked) (f : LinkedFunction) (d : Defined) : Type 0 where
  pub name : d.name ≡ f.name
  pub parameters : map (λ (p : Local). p.ctype) d.parameters ≡ f.parameters
  pub result : d.result ≡ f.result
  pub body : IsBody L.structs (file_types L) d

abbrev pub FunctionLinks : Linked → LinkedFunction → Type 0
FunctionLinks L f = (d : Defined) → f.body ≡ Some d → IsBodyOf L f d

-- A variable's type has a size, and its initial data are of that type and mention what is of the program.
pub record VariableLinks (L : Linked) (v : LinkedVariable) : Type 0 where
  pub sized : IsObject L.structs v.ctype
  pub contents : AreOf L.structs (file_types L) v.ctype v.contents

-- `int main(void)` has a body
pub record HasMain (L : Linked) : Type 0 where
  pub function : LinkedFunction
  pub is : linked_function L main ≡ Some function
  pub parameters : function.parameters ≡ []
  pub result : function.result ≡ int
  pub body : Defined
  pub has_body : function.body ≡ Some body

-- ---- what modules hold

-- an item of a name that two modules hold is the same in both
pub record Agree (m n : Module) : Type 0 where
  pub funs : (x : List ℕ) (f g : Fun) → lookup (bytes_eq x) m.defs.funs ≡ Some f → lookup (bytes_eq x) n.defs.funs ≡ Some g → f ≡ g
  pub preds : (x : List ℕ) (p q : Pred) → lookup (bytes_eq x) m.defs.preds ≡ Some p → lookup (bytes_eq x) n.defs.preds ≡ Some q → p ≡ q
  pub lemmas : (x : List ℕ) (l k : Lemma) → lookup (bytes_eq x) m.defs.lemmas ≡ Some l → lookup (bytes_eq x) n.defs.lemmas ≡ Some k → l ≡ k
  pub specs : (x : List ℕ) (s t : Funspec) → lookup (bytes_eq x) m.specs.items ≡ Some s → lookup (bytes_eq x) n.specs.items ≡ Some t → s ≡ t

-- each two of the modules agree
abbrev pub AllAgree : List Module → Type 0
AllAgree [] = Unit {0}
AllAgree (m ∷ modules) = AllByRecursion (Agree m) modules × AllAgree modules

-- the module imports the function with a specification of its own
abbrev pub ImportsBy : Module → Ident → Type 0
ImportsBy m f = IsOneOf (map (λ (i : ImportBy). i.name) m.imports) f

-- The specification is that of the module's import with terms for the variables of the function's own one: it names no
-- SPEC, terms and parts are well formed, and no term or formula of its two start goals is beyond the limits.
pub record IsImportBy (m : Module) (f : Ident) (spec own : Funspec) : Type 0 where
  pub import : ImportBy
  pub among : (number : ℕ) × (nth m.imports number ≡ Some import)
  pub name : import.name ≡ f
  pub unnamed : spec.name ≡ None
  pub terms : TermsFit m.defs (scope_with spec.with) (map (λ (b : Binder). b.sort) own.with) import.terms
  pub frame : PartsFit m.defs (scope_with spec.with) (PredicatesOf m.defs (scope_with spec.with)) import.frame
  pub first : is_within_limits (first_goal spec own import.terms import.frame) ≡ true
  pub second : is_within_limits (second_goal spec own import.terms import.frame) ≡ true

-- A specification that a module gives a function has the function's types. Where the function has one of its own, as each
-- external function has, it is equal to that up to bound names, or that of the module's import.
pub record SpecLinks (L : Linked) (m : Module) (f : Ident) (spec : Funspec) : Type 0 where
  pub function : LinkedFunction
  pub is : linked_function L f ≡ Some function
  pub types : IsOfFunction spec function
  pub external : function.body ≡ None → is_some function.own ≡ true
  pub own : (own : Funspec) → function.own ≡ Some own → SameFunspec own spec ⊎ IsImportBy m f spec own

-- one that carries the name of a SPEC is that of the module's SPEC
abbrev pub IsNamed : Module → Funspec → Type 0
IsNamed m spec = (name : List ℕ) → spec.name ≡ Some name → (item : Funspec) × (lookup (bytes_eq name) m.specs.items ≡ Some item) × SameFunspec spec (named name item)

-- What a module's proofs stand on: the structs and the names of the whole program, no lemma that is proved yet, and items
-- and specifications that are well formed over it. `home` is the module's number.
pub record ModuleLinks (L : Linked) (number : ℕ) (m : Module) : Type 0 where
  pub structs : m.defs.structs ≡ L.structs
  pub globals : (x : List ℕ) → (is_some (lookup (bytes_eq x) m.defs.globals) ≡ true → IsOneOf (names_of L) x) × (IsOneOf (names_of L) x → is_some (lookup (bytes_eq x) m.defs.globals) ≡ true)
  pub proved : m.defs.proved ≡ []
  pub home : m.defs.home ≡ number
  pub items : ItemsFit m.defs m.specs
  pub specs : (f : Ident) (spec : Funspec) → lookup (bytes_eq f) m.specs.functions ≡ Some spec → SpecLinks L m f spec
  pub named : (f : Ident) (spec : Funspec) → lookup (bytes_eq f) m.specs.functions ≡ Some spec → IsNamed m spec

abbrev pub ModulesLink : Linked → ℕ → List Module → Type 0
ModulesLink L number [] = Unit {0}
ModulesLink L number (m ∷ modules) = ModuleLinks L number m × ModulesLink L (number + 1) modules

-- ---- own specifications

-- one of the modules gives it the function, and not by such an import
abbrev pub IsDeclaredBy : Ident → Funspec → List Module → Type 0
IsDeclaredBy f own [] = ⊥
IsDeclaredBy f own (m ∷ modules) = ((lookup (bytes_eq f) m.specs.functions ≡ Some own) × ¬ ImportsBy m f) ⊎ IsDeclaredBy f own modules

abbrev pub OwnLinks : Linked → LinkedFunction → Type 0
OwnLinks L f = (own : Funspec) → f.own ≡ Some own → IsDeclaredBy f.name own L.modules

-- main's precondition is MAIN_PRE written out
abbrev pub MainPreLinks : Linked → Type 0
MainPreLinks L = (f : LinkedFunction) (own : Funspec) → linked_function L main ≡ Some f → f.own ≡ Some own → own.pre ≡ main_pre L

-- ---- the program

-- Names are distinct, `int main(void)` is among the bodies, bodies and initial data are typed, and the modules hold what is
-- well formed, the same where two hold it.
pub record Links (L : Linked) : Type 0 where
  pub distinct : AreDistinct (names_of L)
  pub main : HasMain L
  pub functions : AllByRecursion (FunctionLinks L) L.functions
  pub variables : AllByRecursion (VariableLinks L) L.variables
  pub own : AllByRecursion (OwnLinks L) L.functions
  pub main_pre : MainPreLinks L
  pub modules : ModulesLink L 0 L.modules
  pub agree : AllAgree L.modules
