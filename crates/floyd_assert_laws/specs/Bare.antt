-- What speaks of no local variable of a function means the same wherever these lie.
use Rattle.std.specs.Prelude.{◌≡◌, ℕ, Bool, false, ◌||◌, List, [], ◌∷◌, ◌++◌, Option, Some, None}
use Rattle.std.specs.List.{flat_map}
use Rattle.floyd_int.specs.declared.kinds.Value.{Value}
use Rattle.floyd_tree.specs.Formulas.{formulas}
use Rattle.floyd_tree.specs.Locals.{have_local, formulas_have_local}
use Rattle.floyd_tree.specs.Locals as locals
use Rattle.floyd_tree.specs.Plain.{Plain, plains}
use Rattle.floyd_tree_values.specs.BuiltIns.{Env}
use Rattle.floyd_tree_values.specs.Data.{Datum}
use Rattle.floyd_tree_values.specs.Funs as funs
use Rattle.floyd_clight_heap.specs.Heaplet.{Heaplet}
use Rattle.floyd_assert_trees.specs.declared.assertion.Assertion.{Assertion}
use Rattle.floyd_assert_trees.specs.declared.spec.Postcondition.{Postcondition}
use Rattle.floyd_assert_changes.specs.Changed.{part_terms, terms_in}
use Rattle.floyd_assert_meaning.specs.Assertions.{Holds}
use Rattle.floyd_assert_meaning.specs.Parts.{BodyHolds}
use Rattle.floyd_assert_meaning.specs.Predicates.{called, Opened}
use Rattle.floyd_assert_meaning.specs.Settings.{Setting}
use Rattle.floyd_assert_meaning.specs.Specifications.{PostHolds}

-- whether a local variable of a function occurs
abbrev pub assertion_has_local : Assertion → Bool
assertion_has_local a = formulas_have_local (formulas a.props) || have_local (plains (terms_in a))

abbrev pub option_terms : Option Plain → List Plain
option_terms None = []
option_terms (Some t) = t ∷ []

abbrev pub post_has_local : Postcondition → Bool
post_has_local a = formulas_have_local (formulas a.props) || have_local (plains (option_terms a.value ++ flat_map part_terms a.parts))

-- no FUN and no PRED speaks of one
pub record IsBare (S : Setting) : Type 0 where
  pub funs : (name : List ℕ) (ds : List Datum) (o : funs.Opened) → funs.called S.defs.funs name ds ≡ Some o → locals.has_local o.term ≡ false
  pub preds : (name : List ℕ) (ds : List Datum) (o : Opened) → called S.preds name ds ≡ Some o → assertion_has_local o.body ≡ false

-- with other blocks for local variables
abbrev pub with_local : Env → (List ℕ → ℕ) → Env
with_local env local = record env { local = local }

abbrev pub BareAssertionsHold : Type 0
BareAssertionsHold =
    (S : Setting) (env : Env) (local : List ℕ → ℕ) (a : Assertion) (temps : List ℕ → Value) (h : Heaplet) →
    IsBare S → assertion_has_local a ≡ false → Holds S env a temps h → Holds S (with_local env local) a temps h

abbrev pub BareBodiesHold : Type 0
BareBodiesHold =
    (S : Setting) (env : Env) (local : List ℕ → ℕ) (a : Assertion) (h : Heaplet) →
    IsBare S → assertion_has_local a ≡ false → BodyHolds S env a h → BodyHolds S (with_local env local) a h

abbrev pub BarePostsHold : Type 0
BarePostsHold =
    (S : Setting) (env : Env) (local : List ℕ → ℕ) (a : Postcondition) (v : Value) (h : Heaplet) →
    IsBare S → post_has_local a ≡ false → PostHolds S env a v h → PostHolds S (with_local env local) a v h
