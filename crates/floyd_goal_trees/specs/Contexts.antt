-- The context of a goal, its variables, and what becomes of it by a command.
use Rattle.std.specs.Prelude.{ℕ, List, [], ◌∷◌, ◌++◌, map}
use Rattle.floyd_tree_sorts.specs.declared.sorts.Sort.{Sort}
use Rattle.floyd_tree.specs.Formulas.{PlainFormula}
use Rattle.floyd_assert_trees.specs.declared.binder.Binder.{Binder}
use Rattle.floyd_goal_trees.specs.declared.context.Context.{Context}
use Rattle.floyd_goal_trees.specs.declared.context.Mark.{Mark}
use Rattle.floyd_goal_trees.specs.declared.context.Mark.TheVariants.{Plain, Start, Induction}
use Rattle.floyd_goal_trees.specs.declared.goal.Goal.{Goal}
use Rattle.floyd_goal_trees.specs.declared.goal.Goal.TheVariants as g

abbrev pub context_of : Goal → Context
context_of (g.Run run) = run.context
context_of (g.Entail entail) = entail.context
context_of (g.Pure pure) = pure.context

-- the variables with their sorts
abbrev pub scope_of : Context → List (List ℕ × Sort)
scope_of context = map (λ (b : Binder). (b.name, b.sort)) context.variables

-- each command but the induction goes on from the start of a lemma's proof
abbrev pub unmarked : Mark → Mark
unmarked Plain = Plain
unmarked (Start name) = Plain
unmarked (Induction name place names) = Induction name place names

abbrev pub after_command : Context → Context
after_command context = record context { mark = unmarked context.mark }

-- with these hypotheses behind the others
abbrev pub with_hypotheses : Context → List PlainFormula → Context
with_hypotheses context fs = record context { hypotheses = context.hypotheses ++ fs }
