-- The proofs of a linked program, one after the other.
use Rattle.std.specs.Prelude.{◌≡◌, ◌⊎◌, ℕ, ◌+◌, true, List, [], ◌∷◌, ◌++◌, map, Some, is_some, bytes_eq}
use Rattle.std.specs.List.{AllByRecursion}
use Rattle.std.specs.Map.{lookup}
use Rattle.floyd_clight.specs.declared.unit.Defined.{Defined}
use Rattle.floyd_clight_memory.specs.Memory.{nth}
use Rattle.floyd_clight_machine.specs.Looking.{Ident}
use Rattle.floyd_assert_trees.specs.declared.items.Defs.{Defs}
use Rattle.floyd_assert_trees.specs.declared.items.Lemma.{Lemma}
use Rattle.floyd_assert_trees.specs.declared.spec.Funspec.{Funspec}
use Rattle.floyd_goal_forms.specs.Starts.{function_start, lemma_start}
use Rattle.floyd_goal_trees.specs.declared.goal.Goal.{Goal}
use Rattle.floyd_goal_trees.specs.declared.goal.Goal.TheVariants.{Entail}
use Rattle.floyd_goal_meaning.specs.declared.linked.ImportBy.{ImportBy}
use Rattle.floyd_goal_meaning.specs.declared.linked.Linked.{Linked}
use Rattle.floyd_goal_meaning.specs.declared.linked.LinkedFunction.{LinkedFunction}
use Rattle.floyd_goal_meaning.specs.declared.linked.Module.{Module}
use Rattle.floyd_goal_meaning.specs.GoalHolds.{HoldsFor}
use Rattle.floyd_goal_meaning.specs.Programs.{linked_function}
use Rattle.floyd_links.specs.Imports.{first_goal, second_goal}
use Rattle.floyd_links.specs.Links.{ImportsBy, IsImportBy}
use Rattle.floyd_import_laws.specs.Laws.{IsSmall}

pub data Kind : Type 0 where
  OfLemma : Kind
  OfBody : Kind
  OfImport : Kind

-- What a proof is of: a lemma, a body or an import with a specification of its own, by the number of its module and its
-- name; and the names of the lemmas that it may use.
pub record Proof : Type 0 where
  pub kind : Kind
  pub number : ℕ
  pub name : List ℕ
  pub before : List (List ℕ)

-- what a module's proofs stand on, where these lemmas are proved
abbrev pub with_proved : Defs → List (List ℕ) → Defs
with_proved defs names = record defs { proved = map (λ x. (x, tt)) names }

-- a function with a body, to which the module gives a specification, and not by an import
pub record BodyOf (L : Linked) (m : Module) (name : List ℕ) : Type 0 where
  pub spec : Funspec
  pub seen : lookup (bytes_eq name) m.specs.functions ≡ Some spec
  pub declared : ¬ ImportsBy m name
  pub function : LinkedFunction
  pub is : linked_function L name ≡ Some function
  pub body : Defined
  pub has_body : function.body ≡ Some body

-- an import of the module with a specification of its own, which differs from the function's
pub record ImportOf (L : Linked) (m : Module) (name : List ℕ) : Type 0 where
  pub spec : Funspec
  pub seen : lookup (bytes_eq name) m.specs.functions ≡ Some spec
  pub function : LinkedFunction
  pub is : linked_function L name ≡ Some function
  pub own : Funspec
  pub has_own : function.own ≡ Some own
  pub by' : IsImportBy m name spec own

-- The proof of a lemma or of a body of the module starts with one goal, and that of an import with two.
abbrev pub StartsWith : Linked → Module → Kind → List ℕ → List Goal → Type 0
StartsWith L m OfLemma name goals = (l : Lemma) × (lookup (bytes_eq name) m.defs.lemmas ≡ Some l) × (goals ≡ lemma_start name l ∷ [])
StartsWith L m OfBody name goals = (b : BodyOf L m name) × (goals ≡ function_start L.structs b.spec b.body ∷ [])
StartsWith L m OfImport name goals =
    (i : ImportOf L m name) × (goals ≡ Entail (first_goal i.spec i.own i.by'.import.terms i.by'.import.frame) ∷ Entail (second_goal i.spec i.own i.by'.import.terms i.by'.import.frame) ∷ [])

-- one of the proofs is of that
abbrev pub IsProvedBy : List Proof → Kind → List ℕ → Type 0
IsProvedBy [] kind name = ⊥
IsProvedBy (p ∷ proofs) kind name = ((p.kind ≡ kind) × (p.name ≡ name)) ⊎ IsProvedBy proofs kind name

-- Its start goals hold for every number of steps, where the lemmas that it may use are true, and these are proved earlier.
pub record IsProof (L : Linked) (earlier : List Proof) (p : Proof) : Type 0 where
  pub module' : Module
  pub at : nth L.modules p.number ≡ Some module'
  pub goals : List Goal
  pub starts : StartsWith L module' p.kind p.name goals
  pub holds : (n : ℕ) → AllByRecursion (HoldsFor (with_proved module'.defs p.before) module'.specs n) goals
  pub before : AllByRecursion (IsProvedBy earlier OfLemma) p.before

abbrev pub AreProofs : Linked → List Proof → List Proof → Type 0
AreProofs L earlier [] = Unit {0}
AreProofs L earlier (p ∷ proofs) = IsProof L earlier p × AreProofs L (earlier ++ p ∷ []) proofs

-- each function with a body has a specification of its own and a proof
abbrev pub AreBodiesProved : Linked → List Proof → Type 0
AreBodiesProved L proofs =
    AllByRecursion (λ (f : LinkedFunction). (d : Defined) → f.body ≡ Some d → (is_some f.own ≡ true) × IsProvedBy proofs OfBody f.name) L.functions

-- one of the proofs is of the import of that name in the module of that number
abbrev pub IsImportProved : List Proof → ℕ → List ℕ → Type 0
IsImportProved [] number name = ⊥
IsImportProved (p ∷ proofs) number name = ((p.kind ≡ OfImport) × (p.number ≡ number) × (p.name ≡ name)) ⊎ IsImportProved proofs number name

-- each import with a specification of its own has a proof in its module
abbrev pub AreImportsProved : List Proof → ℕ → List Module → Type 0
AreImportsProved proofs number [] = Unit {0}
AreImportsProved proofs number (m ∷ modules) = AllByRecursion (λ (i : ImportBy). IsImportProved proofs number i.name) m.imports × AreImportsProved proofs (number + 1) modules

-- There are fewer than 2 ^ 63 nodes where the terms of imports are put into the functions' own specifications.
abbrev pub AreImportsSmall : Linked → Type 0
AreImportsSmall L =
    AllByRecursion (λ (m : Module). (f : Ident) (spec own : Funspec) (i : IsImportBy m f spec own) → IsSmall spec own i.import.terms) L.modules
