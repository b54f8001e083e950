-- The binders whose sorts the terms of a command are to have in a goal. Where there are none, no sorts are expected; an item
-- that is not there is refused by the row, and not where its terms are read.
use Rattle.std.specs.Prelude.{ℕ, List, [], Option, Some, None, option_and_then, slice_get, bytes_eq}
use Rattle.std.specs.Map.{lookup}
use Rattle.floyd_text.specs.declared.rule.Rule.{Rule}
use Rattle.floyd_text.specs.declared.rule.Rule.TheVariants as rule
use Rattle.floyd_clight.specs.declared.syntax.Binding.{Binding}
use Rattle.floyd_clight.specs.declared.syntax.Binding.TheVariants as b
use Rattle.floyd_clight.specs.declared.syntax.Expr.{Expr, Var}
use Rattle.floyd_clight.specs.declared.syntax.Stmt.{Stmt, Call}
use Rattle.floyd_assert_trees.specs.declared.binder.Binder.{Binder}
use Rattle.floyd_assert_trees.specs.declared.items.Defs.{Defs}
use Rattle.floyd_assert_trees.specs.declared.items.Lemma.{Lemma}
use Rattle.floyd_assert_trees.specs.declared.items.Pred.{Pred}
use Rattle.floyd_assert_trees.specs.declared.spec.Funspec.{Funspec}
use Rattle.floyd_assert_trees.specs.declared.spec.SpecTable.{SpecTable}
use Rattle.floyd_goal_trees.specs.Contexts.{context_of}
use Rattle.floyd_goal_trees.specs.declared.context.Mark.{Mark}
use Rattle.floyd_goal_trees.specs.declared.context.Mark.TheVariants as m
use Rattle.floyd_goal_trees.specs.declared.goal.Goal.{Goal}
use Rattle.floyd_goal_trees.specs.declared.goal.Goal.TheVariants as g

-- ---- of items

abbrev pub with_of_spec : Option Funspec → List Binder
with_of_spec None = []
with_of_spec (Some s) = s.with

abbrev pub with_of_lemma : Option Lemma → List Binder
with_of_lemma None = []
with_of_lemma (Some l) = l.with

abbrev pub arguments_of : Option Pred → List Binder
arguments_of None = []
arguments_of (Some p) = p.arguments

-- ---- of the next statement

abbrev pub file_name : Binding → List ℕ → Option (List ℕ)
file_name b.File x = Some x
file_name b.Block x = None

-- the function that an expression names
abbrev pub function_named : Expr → Option (List ℕ)
function_named (Var binding x type) = file_name binding x
function_named expression = None

-- .. that a statement calls
abbrev pub called : Stmt → Option (List ℕ)
called (Call to callee arguments) = function_named callee
called statement = None

abbrev pub next_called : Goal → Option (List ℕ)
next_called (g.Run run) = option_and_then called (slice_get run.rest 0)
next_called goal = None

-- ---- of the goal

-- the lemma whose proof by induction the goal stands in
abbrev pub lemma_of_mark : Mark → Option (List ℕ)
lemma_of_mark (m.Induction name place names) = Some name
lemma_of_mark mark = None

module _ (defs : Defs) (specs : SpecTable) where
  abbrev pub spec_of : Option (List ℕ) → Option Funspec
  spec_of name = option_and_then (λ x. lookup (bytes_eq x) specs.functions) name

  abbrev pub lemma_of : Option (List ℕ) → Option Lemma
  lemma_of name = option_and_then (λ x. lookup (bytes_eq x) defs.lemmas) name

  -- of a command that names this
  abbrev pub binders : Rule → Goal → List ℕ → List Binder
  binders rule.ForwardCall goal name = with_of_spec (spec_of (next_called goal))
  binders rule.ForwardCallPtr goal name = with_of_spec (lookup (bytes_eq name) specs.items)
  binders rule.Apply goal name = with_of_lemma (lookup (bytes_eq name) defs.lemmas)
  binders rule.ApplyIh goal name = with_of_lemma (lemma_of (lemma_of_mark (context_of goal).mark))
  binders rule.Fold goal name = arguments_of (lookup (bytes_eq name) defs.preds)
  binders other goal name = []
