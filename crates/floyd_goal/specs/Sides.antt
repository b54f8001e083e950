-- The side formulas of a rule: those that need a proof are one Pure goal, and hypotheses of the goals behind it.
use Rattle.std.specs.Prelude.{◌≡◌, List, Option, Some, None, Result, Ok, Err, if◌then◌else◌}
use Rattle.floyd_text.specs.declared.refusal.No.{No}
use Rattle.floyd_tree.specs.Formulas.{PlainFormula}
use Rattle.floyd_tree.specs.MadeFormulas.{formula_fits}
use Rattle.floyd_goal_formulas.specs.Keeping.{Kept, conjunction, too_large}
use Rattle.floyd_goal_trees.specs.Contexts.{after_command}
pub use Rattle.floyd_goal_trees.specs.Contexts.{context_of}
use Rattle.floyd_goal_trees.specs.declared.context.Context.{Context}
use Rattle.floyd_goal.specs.declared.side_goals.Sides.{Sides}

-- the goal, where it is within the limits
abbrev pub side_goal : Context → List PlainFormula → Option PlainFormula → Result Sides No
side_goal context kept None = Ok (record { kept = kept; goal = None })
side_goal context kept (Some target) =
    if formula_fits target then Ok (record { kept = kept; goal = Some (record { context = after_command context; target = target }) }) else Err too_large

-- the side formulas give this answer
abbrev pub Side : Context → List PlainFormula → Result Sides No → Type 0
Side context fs answer = (kept : List PlainFormula) × Kept context.hypotheses fs kept × (answer ≡ side_goal context kept (conjunction kept))
