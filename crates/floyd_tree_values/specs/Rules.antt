-- What a term must be so that it has a value, and the rules that FUNs keep.
use Rattle.std.specs.Prelude.{◌≡◌, ◌⊎◌, ℕ, false, List, [], ◌∷◌, ◌++◌, map, Some, None, bytes_eq, All}
use Rattle.std.specs.Map.{lookup}
use Rattle.floyd_ctypes.specs.Structs.{Structs}
use Rattle.floyd_tree_sorts.specs.declared.sorts.Sort.{Sort, ListOf', TreeOf', more_of-Sort, end_of-Sort}
use Rattle.floyd_tree_sorts.specs.declared.heads.Head.{Head}
use Rattle.floyd_tree_sorts.specs.declared.heads.Head.TheVariants.{Variable, Default, Fun as FunHead}
use Rattle.floyd_tree_sorts.specs.Sorts.{list_sort, tree_sort}
use Rattle.floyd_tree.specs.Locals.{has_local}
use Rattle.floyd_tree.specs.Plain.{Plain, Plains, At, Done, More}
use Rattle.floyd_tree.specs.WellSorted.{sort_of}
use Rattle.floyd_tree_values.specs.Data.{HasSort}
use Rattle.floyd_tree_values.specs.Defaults.{value_sort}
use Rattle.floyd_tree_values.specs.Funs.{Fun, Case, Body, Whole, ByCases, Pattern, NilPattern, ConsPattern, LeafPattern, NodePattern, argument_sorts, fun_of}
use Rattle.floyd_tree_values.specs.BuiltIns.{Env}
use Rattle.floyd_tree_values.specs.Means.{Defs}

-- variables with their sorts; the first one of a name counts
abbrev pub Scope : Type 0
Scope = List (List ℕ × Sort)

-- the environment gives each variable a datum of its sort
pub record Suits (scope : Scope) (env : Env) : Type 0 where
  pub each : (x : List ℕ) (s : Sort) → lookup (bytes_eq x) scope ≡ Some s → HasSort s (env.variables x)

-- which calls of a FUN may stand in a term: by name, sorts and arguments
abbrev pub Calls : Type 1
Calls = List ℕ → List Sort → Sort → Plains → Type 0

-- a node is allowed: a variable is in the scope, a default is of its type's value sort, a call may stand there
abbrev pub IsAllowed : Structs → Scope → Calls → Head → Plains → Type 0
IsAllowed structs scope calls (Variable x s) kids = lookup (bytes_eq x) scope ≡ Some s
IsAllowed structs scope calls (Default shape s) kids = value_sort structs shape ≡ Some s
IsAllowed structs scope calls (FunHead name arguments s) kids = calls name arguments s kids
IsAllowed structs scope calls head kids = Unit {0}

-- each node of the term is allowed
abbrev mutual
  pub EachAllowed : Structs → Scope → Calls → Plain → Type 0
  EachAllowed structs scope calls (At head kids) = IsAllowed structs scope calls head kids × AllAllowed structs scope calls kids

  pub AllAllowed : Structs → Scope → Calls → Plains → Type 0
  AllAllowed structs scope calls Done = Unit {0}
  AllAllowed structs scope calls (More t ts) = EachAllowed structs scope calls t × AllAllowed structs scope calls ts

-- the term is of that sort, and each of its nodes is allowed
pub record Fits (structs : Structs) (scope : Scope) (calls : Calls) (s : Sort) (t : Plain) : Type 0 where
  pub sorted : sort_of t ≡ Some s
  pub allowed : EachAllowed structs scope calls t

-- a call of one of the FUNs, with its sorts
abbrev pub CallsOf : List Fun → Calls
CallsOf funs name arguments s kids = (f : Fun) × (fun_of funs name ≡ Some f) × (argument_sorts f ≡ arguments) × (f.result ≡ s)

abbrev pub IsOneOf : List (List ℕ) → List ℕ → Type 0
IsOneOf [] x = ⊥
IsOneOf (y ∷ names) x = (x ≡ y) ⊎ IsOneOf names x

-- the first argument is one of these variables
abbrev pub BeginsWith : List (List ℕ) → Plains → Type 0
BeginsWith names (More (At (Variable x s) Done) more) = IsOneOf names x
BeginsWith names kids = ⊥

-- a call of the FUN itself on one of these variables
abbrev pub CallsItself : Fun → List (List ℕ) → Calls
CallsItself f smaller name arguments s kids = (name ≡ f.name) × (argument_sorts f ≡ arguments) × (f.result ≡ s) × BeginsWith smaller kids

-- what a FUN's term may call: the FUNs before it, and itself on a part of its first argument
abbrev pub CallsFrom : List Fun → Fun → List (List ℕ) → Calls
CallsFrom before f smaller name arguments s kids = CallsOf before name arguments s kids ⊎ CallsItself f smaller name arguments s kids

-- the sublist or the subtrees of a pattern
abbrev pub smaller : Pattern → List (List ℕ)
smaller NilPattern = []
smaller (ConsPattern x r) = r ∷ []
smaller LeafPattern = []
smaller (NodePattern l x r) = l ∷ r ∷ []

-- no name stands twice in a pattern
abbrev pub NamesDiffer : Pattern → Type 0
NamesDiffer NilPattern = Unit {0}
NamesDiffer (ConsPattern x r) = ¬ (x ≡ r)
NamesDiffer LeafPattern = Unit {0}
NamesDiffer (NodePattern l x r) = ¬ (l ≡ x) × ¬ (l ≡ r) × ¬ (x ≡ r)

-- the names of a pattern, for a first argument of sort s whose items are of sort `item`
abbrev pub pattern_scope : Pattern → Sort → Sort → Scope
pattern_scope NilPattern s item = []
pattern_scope (ConsPattern x r) s item = (x, item) ∷ (r, s) ∷ []
pattern_scope LeafPattern s item = []
pattern_scope (NodePattern l x r) s item = (l, s) ∷ (x, item) ∷ (r, s) ∷ []

-- a term of a FUN: it fits, and speaks of no local variable, so that it means the same wherever the FUN is called
pub record TermKeeps (structs : Structs) (scope : Scope) (calls : Calls) (s : Sort) (t : Plain) : Type 0 where
  pub fits : Fits structs scope calls s t
  pub no_local : has_local t ≡ false

pub record CaseKeeps (structs : Structs) (before : List Fun) (f : Fun) (s item : Sort) (c : Case) : Type 0 where
  pub names : NamesDiffer c.pattern
  pub term : TermKeeps structs (pattern_scope c.pattern s item ++ f.arguments) (CallsFrom before f (smaller c.pattern)) f.result c.term

pub data Constructor : Type 0 where
  OfNil : Constructor
  OfCons : Constructor
  OfLeaf : Constructor
  OfNode : Constructor

abbrev pub constructor_of : Pattern → Constructor
constructor_of NilPattern = OfNil
constructor_of (ConsPattern x r) = OfCons
constructor_of LeafPattern = OfLeaf
constructor_of (NodePattern l x r) = OfNode

-- the constructors of the cases
abbrev pub constructors : List Case → List Constructor
constructors cases = map (λ c. constructor_of c.pattern) cases

-- one case for each of both constructors, in either order
abbrev pub OneEach : Constructor → Constructor → List Case → Type 0
OneEach a b cases = (constructors cases ≡ a ∷ b ∷ []) ⊎ (constructors cases ≡ b ∷ a ∷ [])

-- the cases of a FUN whose first argument is of sort s
abbrev pub CasesKeep : Structs → List Fun → Fun → Sort → List Case → Type 0
CasesKeep structs before f (ListOf' p (more_of-Sort item end_of-Sort)) cases =
    OneEach OfNil OfCons cases × All (CaseKeeps structs before f (list_sort item) item) cases
CasesKeep structs before f (TreeOf' p (more_of-Sort item end_of-Sort)) cases =
    OneEach OfLeaf OfNode cases × All (CaseKeeps structs before f (tree_sort item) item) cases
CasesKeep structs before f s cases = ⊥

abbrev pub FirstKeeps : Structs → List Fun → Fun → Scope → List Case → Type 0
FirstKeeps structs before f [] cases = ⊥
FirstKeeps structs before f (a ∷ arguments) cases = CasesKeep structs before f a.1 cases

abbrev pub BodyKeeps : Structs → List Fun → Fun → Body → Type 0
BodyKeeps structs before f (Whole t) = TermKeeps structs f.arguments (CallsFrom before f []) f.result t
BodyKeeps structs before f (ByCases cases) = FirstKeeps structs before f f.arguments cases

-- no name stands twice
abbrev pub AreDistinct : List (List ℕ) → Type 0
AreDistinct [] = Unit {0}
AreDistinct (x ∷ names) = ¬ IsOneOf names x × AreDistinct names

-- a FUN keeps the rules, where these stand before it: its name is new, its arguments have names of their own, and its
-- terms are of its sort and call what they may
pub record KeepsRules (structs : Structs) (before : List Fun) (f : Fun) : Type 0 where
  pub name : fun_of before f.name ≡ None
  pub arguments : AreDistinct (map (λ a. a.0) f.arguments)
  pub body : BodyKeeps structs before f f.body

abbrev pub AllKeep : Structs → List Fun → List Fun → Type 0
AllKeep structs before [] = Unit {0}
AllKeep structs before (f ∷ funs) = KeepsRules structs before f × AllKeep structs (before ++ f ∷ []) funs

-- the structs and FUNs keep the rules
abbrev pub DefsKeep : Defs → Type 0
DefsKeep defs = AllKeep defs.structs [] defs.funs
