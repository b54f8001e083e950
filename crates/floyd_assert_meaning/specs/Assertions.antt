-- When an assertion holds, and when a lemma is true.
use Rattle.std.specs.Prelude.{ℕ, List, [], ◌∷◌}
use Rattle.floyd_int.specs.declared.kinds.Value.{Value}
use Rattle.floyd_tree_values.specs.BuiltIns.{Env}
use Rattle.floyd_tree_values.specs.Data.{Datum, Val}
use Rattle.floyd_tree_values.specs.Means.{Defs, Means}
use Rattle.floyd_truth.specs.Truth.{AllTrue}
use Rattle.floyd_clight_heap.specs.Heaplet.{Heaplet}
use Rattle.floyd_assert_trees.specs.declared.assertion.Assertion.{Assertion}
use Rattle.floyd_assert_trees.specs.declared.assertion.Local.{Local}
use Rattle.floyd_assert_trees.specs.declared.items.Lemma.{Lemma}
use Rattle.floyd_assert_meaning.specs.Settings.{Setting, AreFor, item_env, with_data}
use Rattle.floyd_assert_meaning.specs.Parts.{BodyHolds, PartsHold}

-- each temporary has the value of its term
abbrev pub LocalsHold : Defs → Env → (List ℕ → Value) → List Local → Type 0
LocalsHold defs env temps [] = Unit {0}
LocalsHold defs env temps (l ∷ locals) = Means defs env l.term (Val (temps l.name)) × LocalsHold defs env temps locals

-- An assertion holds of an environment, temporaries and a heaplet: for some data for its existentials each formula of PROP
-- is true, each temporary of LOCAL has its value, and the heaplet is the sum of one heaplet for each part of SEP.
pub record Holds (S : Setting) (env : Env) (a : Assertion) (temps : List ℕ → Value) (h : Heaplet) : Type 0 where
  pub witnesses : List Datum
  pub sorted : AreFor a.existentials witnesses
  pub props : AllTrue S.defs S.has_spec (with_data env a.existentials witnesses) a.props
  pub locals : LocalsHold S.defs (with_data env a.existentials witnesses) temps a.locals
  pub parts : PartsHold S (with_data env a.existentials witnesses) a.parts h

-- for these data for its variables a lemma's right side holds where its left side does; neither speaks of temporaries
abbrev pub LemmaHoldsFor : Setting → Lemma → List Datum → Type 0
LemmaHoldsFor S l ds = (h : Heaplet) → BodyHolds S (item_env S l.with ds) l.left h → BodyHolds S (item_env S l.with ds) l.right h

-- and so for all data of their sorts
abbrev pub LemmaIsTrue : Setting → Lemma → Type 0
LemmaIsTrue S l = (ds : List Datum) → AreFor l.with ds → LemmaHoldsFor S l ds
