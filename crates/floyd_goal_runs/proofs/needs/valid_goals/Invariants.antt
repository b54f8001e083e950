use Rattle.std.proofs.Common.{◌≡◌, ◌++◌, drop, map}
use Rattle.floyd_goal_runs.specs.Needing.{valid_goal}
use Rattle.floyd_goal_runs.proofs.needs.valid_goals.Given as goal

abbrev pub invariant-terms : goal.invariant-terms
invariant-terms l = l.goals ++ map (valid_goal l.context l.source) (drop l.v-index l.valid) ≡ map (valid_goal l.context l.source) l.valid
