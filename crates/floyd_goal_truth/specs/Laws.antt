-- What side formulas are good for.
use Rattle.std.specs.Prelude.{ℕ, Bool, List, Ok}
use Rattle.floyd_int.specs.declared.kinds.Value.{Value}
use Rattle.floyd_tree.specs.Formulas.{PlainFormula}
use Rattle.floyd_tree_values.specs.Means.{Defs}
use Rattle.floyd_tree_values.specs.Rules.{DefsKeep}
use Rattle.floyd_truth.specs.Truth.{AllTrue}
use Rattle.floyd_goal_trees.specs.declared.context.Context.{Context}
use Rattle.floyd_goal.specs.declared.side_goals.Sides.{Sides}
use Rattle.floyd_goal_truth.specs.Scopes.{AllFit}
use Rattle.floyd_goal.specs.Sides.{Side}
use Rattle.floyd_goal_truth.specs.Truths.{Under, IsTrueIfAny}

-- Where the FUNs keep the rules, the formulas are well formed, and the goal that they make is true, or they make none, each
-- of them is true under all data under which the hypotheses are.
abbrev pub SideIsSound : Type 0
SideIsSound =
    (defs : Defs) (specs : List ℕ → Value → Bool) (context : Context) (fs : List PlainFormula) (sides : Sides) → DefsKeep defs → AllFit defs context fs → Side context fs (Ok sides) → IsTrueIfAny defs specs sides.goal → Under defs specs context (λ env. AllTrue defs specs env fs)
