-- What the specification of a function asks where the function is called, and gives where it returns.
use Rattle.std.specs.Prelude.{List, map, Option, Some, None}
use Rattle.floyd_int.specs.declared.kinds.Value.{Value}
use Rattle.floyd_tree.specs.Plain.{Plain, plains}
use Rattle.floyd_tree_values.specs.BuiltIns.{Env}
use Rattle.floyd_tree_values.specs.Data.{Datum, Val}
use Rattle.floyd_tree_values.specs.Means.{Defs, Means, AllMean}
use Rattle.floyd_truth.specs.Truth.{AllTrue}
use Rattle.floyd_clight_heap.specs.Heaplet.{Heaplet}
use Rattle.floyd_assert_trees.specs.declared.spec.Funspec.{Funspec}
use Rattle.floyd_assert_trees.specs.declared.spec.Postcondition.{Postcondition}
use Rattle.floyd_assert_meaning.specs.Settings.{Setting, AreFor, item_env, with_data}
use Rattle.floyd_assert_meaning.specs.Parts.{PartsHold}

-- The precondition, for these data for the variables of WITH, which are of their sorts: each formula of PROP is true, the
-- terms of PARAMS are the arguments in order, and the heaplet is as the parts of SEP say. GLOBALS claims nothing.
pub record Pre (S : Setting) (spec : Funspec) (ds : List Datum) (args : List Value) (h : Heaplet) : Type 0 where
  pub sorted : AreFor spec.with ds
  pub props : AllTrue S.defs S.has_spec (item_env S spec.with ds) spec.pre.props
  pub params : AllMean S.defs (item_env S spec.with ds) (plains spec.pre.params) (map Val args)
  pub parts : PartsHold S (item_env S spec.with ds) spec.pre.parts h

-- the term of RETURN, where there is one, is the result
abbrev pub Returns : Defs → Env → Option Plain → Value → Type 0
Returns defs env None v = Unit {0}
Returns defs env (Some t) v = Means defs env t (Val v)

-- A postcondition: for some data for the existentials each formula of PROP is true, the term of RETURN is the result, and
-- the heaplet is as the parts of SEP say.
pub record PostHolds (S : Setting) (env : Env) (post : Postcondition) (v : Value) (h : Heaplet) : Type 0 where
  pub witnesses : List Datum
  pub sorted : AreFor post.existentials witnesses
  pub props : AllTrue S.defs S.has_spec (with_data env post.existentials witnesses) post.props
  pub returned : Returns S.defs (with_data env post.existentials witnesses) post.value v
  pub parts : PartsHold S (with_data env post.existentials witnesses) post.parts h

-- that of the specification, for the same data for the variables of WITH
abbrev pub Post : Setting → Funspec → List Datum → Value → Heaplet → Type 0
Post S spec ds v h = PostHolds S (item_env S spec.with ds) spec.post v h
