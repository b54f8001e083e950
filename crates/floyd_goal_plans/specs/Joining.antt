-- Two parts of a goal's source that a command joins.
use Rattle.std.specs.Prelude.{◌≡◌, ℕ, nat_eq, if◌then◌else◌, List, [], ◌∷◌, Result, Ok, Err}
use Rattle.floyd_text.specs.declared.refusal.No.{No}
use Rattle.floyd_tree.specs.Formulas.{PlainFormula}
use Rattle.floyd_assert_trees.specs.declared.assertion.Assertion.{Assertion}
use Rattle.floyd_assert_trees.specs.declared.sep.Sep.{Sep}
use Rattle.floyd_goal_trees.specs.Contexts.{after_command}
use Rattle.floyd_goal_trees.specs.declared.args.Args.{Args}
use Rattle.floyd_goal_trees.specs.declared.goal.Goal.{Goal}
use Rattle.floyd_goal.specs.Goals.{enriched, wrong_goal}
use Rattle.floyd_goal.specs.Sides.{context_of}
use Rattle.floyd_goal_plans.specs.declared.joining.Pair.{Pair}
use Rattle.floyd_goal_parts.specs.declared.placing.Plan.{Plan}
use Rattle.floyd_goal_parts.specs.Rows.{Answer, Sided}
use Rattle.floyd_goal_parts.specs.Sources.{from_source, in_place, part_at, part_number, part_of, with_parts}

-- the numbers of the two parts that a command is given
abbrev pub pair_of : Args → Pair
pair_of args = record { first = part_number args.target; second = args.other }

abbrev pub with_second : Pair → Assertion × Sep → Result Sep No → Result (Assertion × Sep × Sep) No
with_second pair found (Err why) = Err why
with_second pair found (Ok q) = if nat_eq pair.first pair.second then Err wrong_goal else Ok (found.0, found.1, q)

abbrev pub second_beside : Pair → Result (Assertion × Sep) No → Result (Assertion × Sep × Sep) No
second_beside pair (Err why) = Err why
second_beside pair (Ok found) = with_second pair found (part_at found.0.parts pair.second)

-- the source, and its parts of these numbers, which differ
abbrev pub two_of : Goal → Pair → Result (Assertion × Sep × Sep) No
two_of goal pair = second_beside pair (part_of goal pair.first)

-- the source with these parts in place of the first one, and without the second one
abbrev pub joined : Pair → List Sep → Assertion → Assertion
joined pair new source = with_parts source (in_place pair.second [] (in_place pair.first new source.parts))

-- the goal with these parts in place of both
abbrev pub IsJoined : Goal → Pair → Assertion → List Sep → Answer → Type 0
IsJoined goal pair source new answer =
    answer ≡ Ok (from_source goal (after_command (context_of goal)) (joined pair new source) ∷ [])

-- the same where side formulas are true
abbrev pub joined_under : Goal → Pair → Assertion → List Sep → List PlainFormula → List Goal
joined_under goal pair source new kept = from_source goal (enriched (context_of goal) kept) (joined pair new source) ∷ []

abbrev pub IsJoinedUnder : Goal → Pair → Assertion → Plan → Answer → Type 0
IsJoinedUnder goal pair source plan = Sided (context_of goal) plan.sides (joined_under goal pair source plan.new)
