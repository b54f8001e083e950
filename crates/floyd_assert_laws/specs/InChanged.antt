-- Parts and assertions with terms in place of variables hold where they do in the changed environment.
use Rattle.std.specs.Prelude.{◌≡◌, ◌↔◌, ℕ, ◌+◌, ◌<◌, ◌^◌, true, List, length, IsSome}
use Rattle.floyd_int.specs.declared.kinds.Value.{Value}
use Rattle.floyd_tree.specs.Formulas.{formulas, formula_sizes, all_well_sorted}
use Rattle.floyd_tree.specs.Plain.{Plain, plains, sizes}
use Rattle.floyd_tree.specs.WellSorted.{sorts_of}
use Rattle.floyd_tree_values.specs.BuiltIns.{Env}
use Rattle.floyd_tree_values.specs.Data.{Datum}
use Rattle.floyd_truth.specs.Laws.{Changed, nodes}
use Rattle.floyd_truth.specs.Replace.{puts}
use Rattle.floyd_clight_heap.specs.Heaplet.{Heaplet}
use Rattle.floyd_assert_trees.specs.declared.assertion.Assertion.{Assertion}
use Rattle.floyd_assert_trees.specs.declared.sep.Sep.{Sep}
use Rattle.floyd_assert_changes.specs.Changed.{part_terms, terms_in, part_after, assertion_after, PartsSortsAgree, AssertionSortsAgree}
use Rattle.floyd_assert_meaning.specs.Assertions.{Holds}
use Rattle.floyd_assert_meaning.specs.Laws.{with_variables}
use Rattle.floyd_assert_meaning.specs.Parts.{PartsHold}
use Rattle.floyd_assert_meaning.specs.Settings.{Setting}
use Rattle.std.specs.List.{flat_map}
use Rattle.std.specs.Prelude.{map}

-- the terms have sorts
abbrev pub AreSorted : List Plain → Type 0
AreSorted ts = IsSome (sorts_of (plains ts))

-- the formulas are well sorted, and the terms have sorts
pub record IsSorted (a : Assertion) : Type 0 where
  pub props : all_well_sorted (formulas a.props) ≡ true
  pub terms : AreSorted (terms_in a)

-- the number of nodes of the formulas and of the terms, and one for each existential
abbrev pub body_nodes : Assertion → ℕ
body_nodes a = formula_sizes (formulas a.props) + sizes (plains (terms_in a)) + length a.existentials

-- Parts, whose terms have sorts, hold after substitution where they do in the changed environment, where each new term has
-- a value and each occurrence of its variable has its sort.
abbrev pub PartsHoldInChanged : Type 0
PartsHoldInChanged =
    (S : Setting) (env : Env) (by : List (List ℕ × Plain)) (variables : List ℕ → Datum) (ps : List Sep) (h : Heaplet) →
    AreSorted (flat_map part_terms ps) → Changed S.defs env by variables → PartsSortsAgree (puts by) ps →
    PartsHold S env (map (part_after (puts by)) ps) h ↔ PartsHold S (with_variables env variables) ps h

-- And so do assertions that are well sorted, whose existentials are renamed where they would capture. There are fewer than
-- 2 ^ 63 nodes in the assertion and the terms.
abbrev pub HoldsInChanged : Type 0
HoldsInChanged =
    (S : Setting) (env : Env) (by : List (List ℕ × Plain)) (variables : List ℕ → Datum) (a : Assertion) (temps : List ℕ → Value) (h : Heaplet) →
    IsSorted a → nodes by + body_nodes a < 2 ^ 63 → Changed S.defs env by variables → AssertionSortsAgree (puts by) a →
    Holds S env (assertion_after (puts by) a) temps h ↔ Holds S (with_variables env variables) a temps h
