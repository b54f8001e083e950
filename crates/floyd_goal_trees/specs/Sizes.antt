-- The sizes of goals as trees: the nodes of all their terms and formulas, and one for each temporary and each part.
-- Statements, sorts and existentials count nothing.
use Rattle.std.specs.Prelude.{ℕ, ◌+◌, max, Option, Some, None, option_map, unwrap_or}
use Rattle.floyd_tree.specs.Formulas.{formula_size}
use Rattle.floyd_tree.specs.Plain.{Plain, size}
use Rattle.floyd_assert_trees.specs.Sizes.{assertion_size, sum_of}
use Rattle.floyd_goal_trees.specs.declared.context.Context.{Context}
use Rattle.floyd_goal_trees.specs.declared.exits.Exit.{Exit}
use Rattle.floyd_goal_trees.specs.declared.exits.Exit.TheVariants as e
use Rattle.floyd_goal_trees.specs.declared.exits.Exits.{Exits}
use Rattle.floyd_goal_trees.specs.declared.exits.Return.{Return}
use Rattle.floyd_goal_trees.specs.declared.goal.Goal.{Goal}
use Rattle.floyd_goal_trees.specs.declared.goal.Goal.TheVariants.{Run, Entail, Pure}

abbrev pub exit_size : Exit → ℕ
exit_size e.None = 0
exit_size (e.To assertion) = assertion_size assertion
exit_size e.End = 0

abbrev pub value_size : Option Plain → ℕ
value_size None = 0
value_size (Some t) = size t

abbrev pub return_size : Return → ℕ
return_size r = assertion_size r.post + value_size r.value

abbrev pub exits_size : Exits → ℕ
exits_size exits = exit_size exits.normal + exit_size exits.brk + exit_size exits.cont + return_size exits.ret

abbrev pub context_size : Context → ℕ
context_size context = sum_of formula_size context.hypotheses

abbrev pub nodes : Goal → ℕ
nodes (Run run) = context_size run.context + assertion_size run.source + exits_size run.exits
nodes (Entail entail) = context_size entail.context + assertion_size entail.source + assertion_size entail.target
nodes (Pure pure) = context_size pure.context + formula_size pure.target

-- a goal counts for one at least
abbrev pub goal_size : Goal → ℕ
goal_size goal = max (nodes goal) 1
