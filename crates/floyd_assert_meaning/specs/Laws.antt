-- What holds of the meaning of assertions.
use Rattle.std.specs.Prelude.{◌≡◌, ◌↔◌, ℕ, Bool, true, List, ◌∷◌, [], ◌++◌, Some, IsPermutation}
use Rattle.floyd_int.specs.declared.kinds.Value.{Value}
use Rattle.floyd_tree.specs.Formulas.{PlainFormula, formula_mentions}
use Rattle.floyd_tree.specs.Plain.{Plain, mentions, plains}
use Rattle.floyd_tree_values.specs.BuiltIns.{Env}
use Rattle.floyd_tree_values.specs.Data.{Datum}
use Rattle.floyd_tree_values.specs.Means.{AllMean, Defs, Means, inside}
use Rattle.floyd_truth.specs.Truth.{Truth}
use Rattle.floyd_clight_heap.specs.Heaplet.{Heaplet}
use Rattle.floyd_assert_cells.specs.Laws.{Sum}
use Rattle.floyd_assert_trees.specs.declared.assertion.Assertion.{Assertion}
use Rattle.floyd_assert_trees.specs.declared.sep.Sep.{Sep}
use Rattle.floyd_assert_trees.specs.declared.sep.Sep.TheVariants.{Anything, Predicate}
use Rattle.floyd_assert_trees.specs.declared.spec.Funspec.{Funspec}
use Rattle.floyd_assert_meaning.specs.Settings.{Setting, AreFor}
use Rattle.floyd_assert_meaning.specs.Predicates.{Opened, called}
use Rattle.floyd_assert_meaning.specs.Parts.{PartHolds, BodyHolds, PartsHold}
use Rattle.floyd_assert_meaning.specs.Assertions.{Holds}
use Rattle.floyd_assert_meaning.specs.Specifications.{Pre, Post}
use Rattle.floyd_assert_meaning.specs.Same.{PartsAgree, SamePart, SameAssertion, SameFunspec}

-- TT holds of any heaplet
abbrev pub AnythingHolds : Type 0
AnythingHolds = (S : Setting) (env : Env) (h : Heaplet) → PartHolds S env Anything h

-- the parts of two lists hold of a sum
abbrev pub PartsAreSums : Type 0
PartsAreSums = (S : Setting) (env : Env) (ps qs : List Sep) (h : Heaplet) → PartsHold S env (ps ++ qs) h ↔ Sum (PartsHold S env ps) (PartsHold S env qs) h

-- a part may be taken out of a list, and be put back
abbrev pub PartsAreTakenOut : Type 0
PartsAreTakenOut =
    (S : Setting) (env : Env) (ps qs : List Sep) (p : Sep) (h : Heaplet) →
    PartsHold S env (ps ++ p ∷ qs) h ↔ Sum (PartHolds S env p) (PartsHold S env (ps ++ qs)) h

-- parts in another order hold of the same heaplets
abbrev pub PartsHaveNoOrder : Type 0
PartsHaveNoOrder = (S : Setting) (env : Env) (ps qs : List Sep) (h : Heaplet) → IsPermutation ps qs → PartsHold S env ps h → PartsHold S env qs h

-- The arguments have data for which the predicate stands for an assertion that holds.
pub record StandsFor (S : Setting) (env : Env) (name : List ℕ) (terms : List Plain) (h : Heaplet) : Type 0 where
  pub arguments : List Datum
  pub mean : AllMean S.defs env (plains terms) arguments
  pub opened : Opened
  pub is : called S.preds name arguments ≡ Some opened
  pub holds : BodyHolds S (inside env opened.bindings) opened.body h

-- a predicate holds exactly where the assertion does that it stands for
abbrev pub PredicatesAreOpened : Type 0
PredicatesAreOpened = (S : Setting) (env : Env) (name : List ℕ) (terms : List Plain) (h : Heaplet) → PartHolds S env (Predicate name terms) h ↔ StandsFor S env name terms h

-- what is equal up to bound names means the same
abbrev pub SameAssertionsMeanOne : Type 0
SameAssertionsMeanOne =
    (S : Setting) (env : Env) (a b : Assertion) (temps : List ℕ → Value) (h : Heaplet) → SameAssertion [] a b → Holds S env a temps h ↔ Holds S env b temps h

abbrev pub SamePartsMeanOne : Type 0
SamePartsMeanOne = (S : Setting) (env : Env) (p q : Sep) (h : Heaplet) → SamePart [] p q → PartHolds S env p h ↔ PartHolds S env q h

abbrev pub SameFunspecsAskOne : Type 0
SameFunspecsAskOne = (S : Setting) (s t : Funspec) (ds : List Datum) (args : List Value) (h : Heaplet) → SameFunspec s t → Pre S s ds args h ↔ Pre S t ds args h

abbrev pub SameFunspecsGiveOne : Type 0
SameFunspecsGiveOne = (S : Setting) (s t : Funspec) (ds : List Datum) (v : Value) (h : Heaplet) → SameFunspec s t → AreFor s.with ds → Post S s ds v h ↔ Post S t ds v h

-- both give the same datum to each variable of which the test holds
abbrev pub AgreeWhere : (List ℕ → Bool) → (List ℕ → Datum) → (List ℕ → Datum) → Type 0
AgreeWhere test f g = (x : List ℕ) → test x ≡ true → f x ≡ g x

abbrev pub with_variables : Env → (List ℕ → Datum) → Env
with_variables env f = record env { variables = f }

-- the value of a term looks at the variables that occur in it alone
abbrev pub TermsLookAtVariables : Type 0
TermsLookAtVariables =
    (defs : Defs) (env : Env) (f g : List ℕ → Datum) (t : Plain) (d : Datum) →
    AgreeWhere (λ x. mentions x t) f g → Means defs (with_variables env f) t d → Means defs (with_variables env g) t d

-- the truth of a formula looks at the variables that are free in it alone
abbrev pub FormulasLookAtFree : Type 0
FormulasLookAtFree =
    (defs : Defs) (specs : List ℕ → Value → Bool) (env : Env) (f g : List ℕ → Datum) (p : PlainFormula) →
    AgreeWhere (λ x. formula_mentions x p) f g → Truth defs specs (with_variables env f) p → Truth defs specs (with_variables env g) p

-- what a term means with f, the other means with g
abbrev pub MeansSo : Defs → Env → (List ℕ → Datum) → (List ℕ → Datum) → Plain → Plain → Type 0
MeansSo defs env f g t u = (d : Datum) → Means defs (with_variables env f) t d → Means defs (with_variables env g) u d

-- A part looks at the values of its terms alone: two parts whose terms mean the same, each at its place, hold of the same
-- heaplets.
abbrev pub PartsLookAtTerms : Type 0
PartsLookAtTerms =
    (S : Setting) (env : Env) (f g : List ℕ → Datum) (p q : Sep) (h : Heaplet) →
    PartsAgree (MeansSo S.defs env f g) p q → PartHolds S (with_variables env f) p h → PartHolds S (with_variables env g) q h
