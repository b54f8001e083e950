-- What an instance of a specification says.
use Rattle.std.specs.Prelude.{◌≡◌, ◌↔◌, ◌+◌, ◌<◌, ◌^◌, ℕ, List, map, Ok}
use Rattle.floyd_int.specs.declared.kinds.Value.{Value}
use Rattle.floyd_clight_heap.specs.Heaplet.{Heaplet}
use Rattle.floyd_tree.specs.Plain.{Plain, plains}
use Rattle.floyd_tree_values.specs.BuiltIns.{Env}
use Rattle.floyd_tree_values.specs.Data.{Datum, Val}
use Rattle.floyd_tree_values.specs.Means.{AllMean}
use Rattle.floyd_truth.specs.Laws.{nodes}
use Rattle.floyd_assert_trees.specs.declared.items.Defs.{Defs}
use Rattle.floyd_assert_trees.specs.declared.spec.Funspec.{Funspec}
use Rattle.floyd_assert_trees.specs.declared.spec.Postcondition.{Postcondition}
use Rattle.floyd_assert_trees.specs.declared.spec.SpecTable.{SpecTable}
use Rattle.floyd_assert_meaning.specs.Assertions.{Holds}
use Rattle.floyd_assert_meaning.specs.Settings.{Setting, AreFor}
use Rattle.floyd_assert_meaning.specs.Specifications.{Post, PostHolds, Pre}
use Rattle.floyd_assert_laws.specs.Bare.{IsBare}
use Rattle.floyd_assert_laws.specs.InChanged.{body_nodes}
use Rattle.floyd_assert_instances.specs.declared.instance.Instance.{Instance}
use Rattle.floyd_assert_instances.specs.Instances.{pairs}
use Rattle.floyd_assert_instances.specs.Specifications.{TakesTerms, asked, given, instantiated}
use Rattle.floyd_goal_forms.specs.Items.{FunspecFits}

-- The terms of PARAMS are the arguments in order, and what is asked holds. No temporary plays a part.
pub record Asks (S : Setting) (env : Env) (i : Instance) (args : List Value) (h : Heaplet) : Type 0 where
  pub params : AllMean S.defs env (plains i.params) (map Val args)
  pub holds : (temps : List ℕ → Value) → Holds S env i.pre temps h

-- what is given, with the term of RETURN
abbrev pub post_of : Instance → Postcondition
post_of i = record { existentials = i.post.existentials; props = i.post.props; value = i.value; parts = i.post.parts }

-- the instance says in this environment what the specification says for these data for the variables of WITH
pub record SaysFor (S : Setting) (env : Env) (spec : Funspec) (ds : List Datum) (i : Instance) : Type 0 where
  pub pre : (args : List Value) (h : Heaplet) → Pre S spec ds args h ↔ Asks S env i args h
  pub post : (v : Value) (h : Heaplet) → Post S spec ds v h ↔ PostHolds S env (post_of i) v h

-- The specification is well formed. There are fewer than 2 ^ 63 nodes where terms are put.
pub record InstanceFits (defs : Defs) (specs : SpecTable) (spec : Funspec) (terms : List Plain) : Type 0 where
  pub fits : FunspecFits defs specs spec
  pub asked : nodes (pairs spec.with terms) + body_nodes (asked spec.pre) < 2 ^ 63
  pub given : nodes (pairs spec.with terms) + body_nodes (given spec.post) < 2 ^ 63

-- An instance says what its specification says for the values of the terms. Its terms may speak of local variables of a
-- function, of which the file's items say nothing.
abbrev pub InstancesSay : Type 0
InstancesSay =
    (defs : Defs) (specs : SpecTable) (spec : Funspec) (terms : List Plain) (i : Instance) → InstanceFits defs specs spec terms → instantiated spec terms ≡ Ok i →
    (S : Setting) (env : Env) (ds : List Datum) → IsBare S → env.global ≡ S.block_of → AreFor spec.with ds → AllMean S.defs env (plains terms) ds → SaysFor S env spec ds i

-- An instance may be asked for of any terms where the specification is well formed.
abbrev pub InstancesAreMade : Type 0
InstancesAreMade = (defs : Defs) (specs : SpecTable) (spec : Funspec) (terms : List Plain) → FunspecFits defs specs spec → TakesTerms spec terms
