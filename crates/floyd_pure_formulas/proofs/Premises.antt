-- The goals of a command that uses what follows from premises.
use Rattle.std.proofs.Common.{◌≡◌, List, Ok, Err, refl, sym}
use Rattle.floyd_text.specs.declared.refusal.RuleStop.{RuleStop}
use Rattle.floyd_text.specs.declared.refusal.RuleStop.TheVariants as r
use Rattle.floyd_tree.specs.Formulas.{PlainFormula}
use Rattle.floyd_goal_trees.specs.declared.goal.Goal.{Goal}
use Rattle.floyd_goal.specs.declared.side_goals.Sides.{Sides}
use Rattle.floyd_goal.specs.Answers.{IsAnswer}
use Rattle.floyd_goal.specs.Sides.{Side, context_of}
use Rattle.floyd_pure_formulas.specs.Rows.{Concludes, concluded}

pub concluding_stops : (goal : Goal) (premises : List PlainFormula) (c : PlainFormula) (stop : RuleStop) → IsAnswer (Side (context_of goal) premises) (Err stop) → IsAnswer (Concludes goal premises c) (Err stop)
concluding_stops goal premises c (r.No refusal) h = (Err refusal, h, refl)
concluding_stops goal premises c r.Memory h = tt

pub concluding_gives : (goal : Goal) (premises : List PlainFormula) (c : PlainFormula) (s : Sides) (goals : List Goal) → Side (context_of goal) premises (Ok s) → concluded goal c (Ok s) ≡ Ok goals → Concludes goal premises c (Ok goals)
concluding_gives goal premises c s goals h e = (Ok s, h, sym e)
