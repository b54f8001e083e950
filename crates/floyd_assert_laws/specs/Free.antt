-- What assertions mean looks at the variables alone that are free in them.
use Rattle.std.specs.Prelude.{ℕ, Bool, false, not, ◌&&◌, ◌||◌, List, Option, Some, None}
use Rattle.floyd_int.specs.declared.kinds.Value.{Value}
use Rattle.floyd_tree.specs.Formulas.{formulas, formulas_mention}
use Rattle.floyd_tree.specs.Plain.{Plain, plains, mentions, mentions_in}
use Rattle.floyd_tree_values.specs.BuiltIns.{Env}
use Rattle.floyd_tree_values.specs.Data.{Datum}
use Rattle.floyd_clight_heap.specs.Heaplet.{Heaplet}
use Rattle.floyd_assert_trees.specs.declared.assertion.Assertion.{Assertion}
use Rattle.floyd_assert_trees.specs.declared.spec.Postcondition.{Postcondition}
use Rattle.floyd_assert_changes.specs.Changed.{body_mentions, has_name, part_terms}
use Rattle.floyd_assert_meaning.specs.Assertions.{Holds}
use Rattle.floyd_assert_meaning.specs.Laws.{AgreeWhere, with_variables}
use Rattle.floyd_assert_meaning.specs.Settings.{Setting}
use Rattle.floyd_assert_meaning.specs.Specifications.{PostHolds}
use Rattle.std.specs.List.{flat_map}

-- whether the name is free
abbrev pub assertion_mentions : Assertion → List ℕ → Bool
assertion_mentions a x = body_mentions a x && not (has_name x a.existentials)

abbrev pub option_mentions : Option Plain → List ℕ → Bool
option_mentions None x = false
option_mentions (Some t) x = mentions x t

abbrev pub end_mentions : Postcondition → List ℕ → Bool
end_mentions a x = formulas_mention x (formulas a.props) || (option_mentions a.value x || mentions_in x (plains (flat_map part_terms a.parts)))

abbrev pub post_mentions : Postcondition → List ℕ → Bool
post_mentions a x = end_mentions a x && not (has_name x a.existentials)

abbrev pub AssertionsLookAtFree : Type 0
AssertionsLookAtFree =
    (S : Setting) (env : Env) (f g : List ℕ → Datum) (a : Assertion) (temps : List ℕ → Value) (h : Heaplet) →
    AgreeWhere (assertion_mentions a) f g → Holds S (with_variables env f) a temps h → Holds S (with_variables env g) a temps h

abbrev pub PostsLookAtFree : Type 0
PostsLookAtFree =
    (S : Setting) (env : Env) (f g : List ℕ → Datum) (a : Postcondition) (v : Value) (h : Heaplet) →
    AgreeWhere (post_mentions a) f g → PostHolds S (with_variables env f) a v h → PostHolds S (with_variables env g) a v h
