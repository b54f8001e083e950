-- What the start goals give with which the proof of an import with a specification of its own starts.
use Rattle.std.specs.Prelude.{◌≡◌, ◌+◌, ◌<◌, ◌^◌, ℕ, List, map, length, Option, Some, None}
use Rattle.floyd_int.specs.declared.kinds.Value.{Value}
use Rattle.floyd_clight_heap.specs.Heaplet.{Heaplet, Joins}
use Rattle.floyd_tree.specs.Plain.{Plain, size}
use Rattle.floyd_tree_values.specs.Data.{Datum}
use Rattle.floyd_truth.specs.Laws.{nodes}
use Rattle.floyd_truth.specs.Replace.{puts}
use Rattle.floyd_assert_trees.specs.declared.binder.Binder.{Binder}
use Rattle.floyd_assert_trees.specs.declared.items.Defs.{Defs}
use Rattle.floyd_assert_trees.specs.declared.sep.Sep.{Sep}
use Rattle.floyd_assert_trees.specs.declared.spec.Funspec.{Funspec}
use Rattle.floyd_assert_trees.specs.declared.spec.SpecTable.{SpecTable}
use Rattle.floyd_assert_changes.specs.Changed.{assertion_after}
use Rattle.floyd_assert_meaning.specs.Settings.{Setting}
use Rattle.floyd_assert_meaning.specs.Specifications.{Post, Pre}
use Rattle.floyd_assert_laws.specs.InChanged.{body_nodes}
use Rattle.floyd_goal_forms.specs.Assertions.{PartsFit, PredicatesOf}
use Rattle.floyd_goal_forms.specs.Items.{FunspecFits}
use Rattle.floyd_goal_forms.specs.Terms.{scope_with, TermsFit}
use Rattle.floyd_goal_trees.specs.declared.goal.Goal.TheVariants.{Entail}
use Rattle.floyd_goal_meaning.specs.GoalHolds.{HoldsFor}
use Rattle.floyd_goal_meaning.specs.Programs.{setting}
use Rattle.floyd_links.specs.Imports.{first_goal, own_post, plain_assertion, second_goal, value_in, with_terms, with_value}
use Rattle.floyd_start_laws.specs.Laws.{WhereProved}

-- one use of the import's specification is one of the function's own: on a part of the heaplet, beside which the rest stays
pub record IsServed (S : Setting) (import own : Funspec) (ds : List Datum) (args : List Value) (h : Heaplet) : Type 0 where
  pub data' : List Datum
  pub here : Heaplet
  pub rest : Heaplet
  pub joins : Joins here rest h
  pub pre : Pre S own data' args here
  pub post : (v : Value) (g k : Heaplet) → Post S own data' v g → Joins g rest k → Post S import ds v k

-- what the import's specification asks and gives follows from what the own one does
abbrev pub Follows : Setting → Funspec → Funspec → Type 0
Follows S import own = (ds : List Datum) (args : List Value) (h : Heaplet) → Pre S import ds args h → IsServed S import own ds args h

abbrev pub value_nodes : Option Plain → ℕ
value_nodes None = 0
value_nodes (Some t) = size t

-- There are fewer than 2 ^ 63 nodes where terms are put or existentials are renamed.
pub record IsSmall (import own : Funspec) (terms : List Plain) : Type 0 where
  pub pre : nodes (with_terms own.with terms) + body_nodes (plain_assertion own.pre.props own.pre.parts) < 2 ^ 63
  pub post : nodes (with_terms own.with terms) + body_nodes (with_value own.post) < 2 ^ 63
  pub named : length import.with + length import.post.existentials + body_nodes (assertion_after (puts (with_terms own.with terms)) (with_value own.post)) < 2 ^ 63
  pub returned : value_nodes (value_in (own_post import own terms).locals) + body_nodes (with_value import.post) < 2 ^ 63

-- Both specifications are well formed, each over what a module's proofs stand on. They have as many parameters and results
-- of one shape. A term fits each variable of the own one, and the parts fit, where the import's variables are.
pub record ImportFits (defs : Defs) (specs : SpecTable) (import own : Funspec) (terms : List Plain) (frame : List Sep) : Type 0 where
  pub import_fits : FunspecFits defs specs import
  pub their : Defs
  pub their_specs : SpecTable
  pub own_fits : FunspecFits their their_specs own
  pub params : length import.pre.params ≡ length own.pre.params
  pub result : import.result.shape ≡ own.result.shape
  pub terms_fit : TermsFit defs (scope_with import.with) (map (λ (b : Binder). b.sort) own.with) terms
  pub frame_fit : PartsFit defs (scope_with import.with) (PredicatesOf defs (scope_with import.with)) frame
  pub small : IsSmall import own terms

-- An import's specification follows from the function's own where both start goals hold, whatever lemmas are proved.
abbrev pub ImportStartsProve : Type 0
ImportStartsProve =
    (defs : Defs) (specs : SpecTable) (proved : List (List ℕ × Unit {0})) (n : ℕ) (import own : Funspec) (terms : List Plain) (frame : List Sep) → ImportFits defs specs import own terms frame →
    HoldsFor (record defs { proved = proved }) specs n (Entail (first_goal import own terms frame)) → HoldsFor (record defs { proved = proved }) specs n (Entail (second_goal import own terms frame)) →
    WhereProved (record defs { proved = proved }) specs (λ L more place. Follows (setting L more place) import own)
