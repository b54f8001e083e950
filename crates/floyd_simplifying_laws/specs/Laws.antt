-- That simplifying keeps what an assertion says.
use Rattle.std.specs.Prelude.{◌≡◌, ◌↔◌, ℕ, List, Some, Ok}
use Rattle.std.specs.List.{AllByRecursion}
use Rattle.floyd_int.specs.declared.kinds.Value.{Value}
use Rattle.floyd_tree_sorts.specs.declared.sorts.Sort.{Sort}
use Rattle.floyd_tree.specs.Plain.{Plain}
use Rattle.floyd_tree_values.specs.BuiltIns.{Env}
use Rattle.floyd_tree_values.specs.Means.{Defs}
use Rattle.floyd_tree_values.specs.Rules.{AreDistinct, CallsOf, DefsKeep, Scope, Suits}
use Rattle.floyd_tree_values.specs.Rules as ru
use Rattle.floyd_clight_heap.specs.Heaplet.{Heaplet}
use Rattle.floyd_assert_trees.specs.declared.assertion.Assertion.{Assertion}
use Rattle.floyd_assert_changes.specs.Changed.{terms_in}
use Rattle.floyd_assert_meaning.specs.Assertions.{Holds}
use Rattle.floyd_assert_meaning.specs.Settings.{Setting}
use Rattle.floyd_goal_formulas.specs.Fits.{Fits}
use Rattle.floyd_goal_forms.specs.Assertions.{inner_scope}
use Rattle.floyd_goal_forms.specs.Terms.{names_with}
use Rattle.floyd_simplifying.specs.Assertions.{assertion_simplified}

-- a term of some sort that is well formed
abbrev pub IsTerm : Defs → Scope → Plain → Type 0
IsTerm defs scope t = (s : Sort) × ru.Fits defs.structs scope (CallsOf defs.funs) s t

-- below its existentials, whose names are distinct, each formula and each term of an assertion is well formed
pub record AreFit (defs : Defs) (scope : Scope) (a : Assertion) : Type 0 where
  pub existentials : AreDistinct (names_with a.existentials)
  pub props : AllByRecursion (Fits defs (inner_scope a scope)) a.props
  pub terms : AllByRecursion (IsTerm defs (inner_scope a scope)) (terms_in a)

-- Where the FUNs keep the rules, and the data suit the scope, such an assertion holds as what it is simplified to exactly where
-- it did.
abbrev pub AssertionSimplifyingKeeps : Type 0
AssertionSimplifyingKeeps =
    (S : Setting) (scope : Scope) (env : Env) (a made : Assertion) (temps : List ℕ → Value) (h : Heaplet) → DefsKeep S.defs → Suits scope env → AreFit S.defs scope a → assertion_simplified a ≡ Ok (Some made) → Holds S env made temps h ↔ Holds S env a temps h
