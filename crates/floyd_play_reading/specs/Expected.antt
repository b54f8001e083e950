-- The sorts that the terms of a command are to have in a goal, and what names stand for in its arguments.
use Rattle.std.specs.Prelude.{ℕ, List, [], ◌∷◌, Option, Some, None, option_and_then, if◌then◌else◌, bytes_eq}
use Rattle.std.specs.Map.{lookup}
use Rattle.floyd_text.specs.declared.rule.Rule.{Rule}
use Rattle.floyd_text.specs.declared.rule.Rule.TheVariants as rule
use Rattle.floyd_tree_sorts.specs.declared.operators.RowSort.{RowSort}
use Rattle.floyd_tree_sorts.specs.declared.sorts.Sort.{Sort}
use Rattle.floyd_tree.specs.Formulas.{PlainFormula}
use Rattle.floyd_tree.specs.Plain.{Plain}
use Rattle.floyd_assert_trees.specs.declared.binder.Binder.{Binder}
use Rattle.floyd_assert_trees.specs.declared.items.Defs.{Defs}
use Rattle.floyd_assert_trees.specs.declared.items.Pred.{Pred}
use Rattle.floyd_assert_trees.specs.declared.items.PredBody.{PredBody}
use Rattle.floyd_assert_trees.specs.declared.items.PredBody.TheVariants as body
use Rattle.floyd_assert_trees.specs.declared.items.PredCase.{PredCase}
use Rattle.floyd_assert_trees.specs.declared.spec.SpecTable.{SpecTable}
use Rattle.floyd_clauses.specs.Clauses.{case_for, is_hidden}
use Rattle.floyd_goal_formulas.specs.Said.{Saying, ForAll, ThereIs, said}
use Rattle.floyd_goal.specs.Goals.{hypothesis_at}
use Rattle.floyd_goal_trees.specs.Contexts.{context_of}
use Rattle.floyd_goal_trees.specs.declared.goal.Goal.{Goal}
use Rattle.floyd_goal_trees.specs.declared.goal.Goal.TheVariants as g
use Rattle.floyd_listlaw.specs.Names.{law_named}
use Rattle.floyd_listlaw.specs.Table.{row}
use Rattle.floyd_listlaw.specs.declared.list_law.ListLaw.{ListLaw}
use Rattle.floyd_termread_scope.specs.Scopes.{Env, Named}
use Rattle.floyd_play_expected.specs.Binders.{binders}
use Rattle.floyd_play_scopes.specs.GoalScopes.{sorts_in}
use Rattle.floyd_play_terms.specs.Expected.{by_binders, by_forms}

-- the variables are those of the goal's context, and `lv` may take these names
abbrev pub goal_env : Goal → Defs → SpecTable → Named (Unit {0}) → Env
goal_env goal defs specs locals = record {
  variable = sorts_in (context_of goal).variables;
  defs = defs;
  specs = specs.items;
  locals = Some locals;
}

-- ---- lists of terms

-- the sorts that a law takes; an unknown law is refused by its row
abbrev pub forms_of : Option ListLaw → List RowSort
forms_of None = []
forms_of (Some law) = (row law).arguments

abbrev pub of_law : List ℕ → List Plain → Option Sort
of_law name = by_forms (forms_of (law_named name))

module _ (defs : Defs) (specs : SpecTable) where
  -- of a term of the first list of a command that names this
  abbrev pub expected : Rule → Goal → List ℕ → List Plain → Option Sort
  expected rule.Law goal name = of_law name
  expected command goal name = by_binders (binders defs specs command goal name)

-- The second list of `fold` is for the existentials of the clause that the first list fixes. Those of an opaque predicate of
-- another module are not known.
abbrev pub of_case : Option PredCase → List Binder
of_case None = []
of_case (Some c) = c.body.existentials

abbrev pub existentials_by : PredBody → List Plain → List Binder
existentials_by (body.Whole a) ts = a.existentials
existentials_by (body.Cases cases) [] = []
existentials_by (body.Cases cases) (t ∷ ts) = of_case (case_for cases t)

abbrev pub existentials_of : ℕ → Option Pred → List Plain → List Binder
existentials_of home None ts = []
existentials_of home (Some p) ts = if is_hidden home p then [] else existentials_by p.body ts

abbrev pub expected_more : Defs → List ℕ → List Plain → List Plain → Option Sort
expected_more defs name ts = by_binders (existentials_of defs.home (lookup (bytes_eq name) defs.preds) ts)

-- ---- single terms

-- of `Exists`: the first existential of the target
abbrev pub first_sort : List Binder → Option Sort
first_sort [] = None
first_sort (b ∷ bs) = Some b.sort

abbrev pub witness_of : Saying → Option Sort
witness_of (ThereIs x s f) = Some s
witness_of saying = None

abbrev pub witness_in : PlainFormula → Option Sort
witness_in target = witness_of (said target)

abbrev pub witness_sort : Goal → Option Sort
witness_sort (g.Run run) = None
witness_sort (g.Entail entail) = first_sort entail.target.existentials
witness_sort (g.Pure pure) = witness_in pure.target

-- of `specialize`: the variable of the hypothesis
abbrev pub instance_of : Saying → Option Sort
instance_of (ForAll x s f) = Some s
instance_of saying = None

abbrev pub instance_in : PlainFormula → Option Sort
instance_in hypothesis = instance_of (said hypothesis)

abbrev pub instance_sort : Goal → ℕ → Option Sort
instance_sort goal k = option_and_then instance_in (hypothesis_at (context_of goal).hypotheses k)
