-- That rewriting keeps what an assertion says.
use Rattle.std.specs.Prelude.{◌≡◌, ◌↔◌, ℕ, ◌<◌, ◌^◌, true, List, Some, Ok}
use Rattle.floyd_int.specs.declared.kinds.Value.{Value}
use Rattle.floyd_tree_sorts.specs.declared.sorts.Sort.{Sort}
use Rattle.floyd_tree.specs.Made.{fits}
use Rattle.floyd_tree.specs.Plain.{Plain}
use Rattle.floyd_tree.specs.WellSorted.{sort_of}
use Rattle.floyd_tree_values.specs.BuiltIns.{Env}
use Rattle.floyd_tree_values.specs.Data.{Datum}
use Rattle.floyd_tree_values.specs.Means.{Means}
use Rattle.floyd_clight_heap.specs.Heaplet.{Heaplet}
use Rattle.floyd_assert_trees.specs.declared.assertion.Assertion.{Assertion}
use Rattle.floyd_assert_meaning.specs.Assertions.{Holds}
use Rattle.floyd_assert_meaning.specs.Settings.{Setting}
use Rattle.floyd_assert_laws.specs.InChanged.{IsSorted, body_nodes}
use Rattle.floyd_rewriting.specs.Rewritten.{assertion_rewritten}

-- Where both terms are of one sort and within the limits, and have one value, a well-sorted assertion of fewer than 2 ^ 62 nodes
-- holds after the rewriting exactly where it did.
abbrev pub AssertionRewritingKeeps : Type 0
AssertionRewritingKeeps =
    (S : Setting) (env : Env) (from to : Plain) (s : Sort) (d : Datum) (a made : Assertion) (temps : List ℕ → Value) (h : Heaplet) →
    sort_of from ≡ Some s → sort_of to ≡ Some s → fits from ≡ true → fits to ≡ true → Means S.defs env from d → Means S.defs env to d →
    IsSorted a → body_nodes a < 2 ^ 62 → assertion_rewritten from to a ≡ Ok (Some made) →
    Holds S env made temps h ↔ Holds S env a temps h
