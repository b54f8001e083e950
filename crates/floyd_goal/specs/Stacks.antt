-- The goals that are left of a proof, in order, and what a push leaves.
use Rattle.std.specs.Prelude.{◌≡◌, ℕ, nat_le, List, ◌++◌, drop, Result, Ok, Err, if◌then◌else◌}
use Rattle.floyd_text.specs.declared.code.Code.TheVariants.{GoalsTooLarge}
use Rattle.floyd_text.specs.declared.refusal.No.{No}
use Rattle.floyd_text.specs.declared.refusal.RuleStop.{RuleStop}
use Rattle.floyd_text.specs.declared.refusal.Shown.TheVariants.{Nothing}
use Rattle.floyd_text.specs.Gives.{RuleStops}
use Rattle.floyd_assert_trees.specs.Sizes.{sum_of}
use Rattle.floyd_goal_trees.specs.declared.goal.Goal.{Goal}
use Rattle.floyd_goal_trees.specs.Sizes.{goal_size}

-- the greatest size of all goals that are left
abbrev pub most : ℕ
most = 4194304

abbrev pub too_many : No
too_many = record { code = GoalsTooLarge; shown = Nothing }

abbrev pub fitting : List Goal → Result (List Goal) No
fitting goals = if nat_le (sum_of goal_size goals) most then Ok goals else Err too_many

-- the goals that were made in place of the first one that was left, where they are within the limit
abbrev pub pushed : List Goal → List Goal → Result (List Goal) No
pushed made left = fitting (made ++ drop 1 left)

-- what a push answers, and what is left after it
abbrev pub GivesPush : Result (Unit {0}) RuleStop → List Goal → Result (List Goal) No → Type 0
GivesPush (Ok done) left wanted = wanted ≡ Ok left
GivesPush (Err stop) left wanted = RuleStops stop wanted
