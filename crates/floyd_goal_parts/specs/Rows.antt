-- How the rows of commands on memory are written. A row says of a goal, of what a command is given and of an answer whether
-- it is the right one: the goals that the command makes, or the refusal of the first condition that fails.
use Rattle.std.specs.Prelude.{◌≡◌, ℕ, Bool, true, false, List, [], ◌∷◌, Option, Some, None, Result, Ok, Err}
use Rattle.floyd_text.specs.declared.refusal.No.{No}
use Rattle.floyd_tree.specs.Formulas.{PlainFormula}
use Rattle.floyd_assert_trees.specs.declared.assertion.Assertion.{Assertion}
use Rattle.floyd_assert_trees.specs.declared.sep.Sep.{Sep}
use Rattle.floyd_goal_trees.specs.Contexts.{after_command}
use Rattle.floyd_goal_trees.specs.declared.context.Context.{Context}
use Rattle.floyd_goal_trees.specs.declared.goal.Goal.{Goal}
use Rattle.floyd_goal_trees.specs.declared.goal.Goal.TheVariants as g
use Rattle.floyd_goal_trees.specs.declared.goal.Pure.{Pure}
use Rattle.floyd_goal.specs.declared.side_goals.Sides.{Sides}
use Rattle.floyd_goal.specs.Goals.{enriched}
pub use Rattle.floyd_goal.specs.Rows.{Answer, Unless, after_side}
use Rattle.floyd_goal.specs.Sides.{Side, context_of}
use Rattle.floyd_goal_parts.specs.declared.placing.Plan.{Plan}
use Rattle.floyd_goal_parts.specs.Sources.{from_source, in_place, part_of, with_parts}

-- what was found, or made, goes on, and a refusal is the answer
abbrev pub OfResult : {A : Type 0} → Result A No → (A → Answer → Type 0) → Answer → Type 0
OfResult (Ok a) Next answer = Next a answer
OfResult (Err why) Next answer = answer ≡ Err why

-- the goals behind it, where these side formulas were kept
abbrev pub after_sides : (List PlainFormula → List Goal) → Result Sides No → Answer
after_sides behind (Err why) = Err why
after_sides behind (Ok sides) = Ok (after_side sides.goal (behind sides.kept))

-- the side formulas make a goal, and those that are kept are hypotheses of the goals behind it
abbrev pub Sided : Context → List PlainFormula → (List PlainFormula → List Goal) → Answer → Type 0
Sided context fs behind answer = (sides : Result Sides No) × Side context fs sides × (answer ≡ after_sides behind sides)

-- The goal with these parts in place of the part of that number, and with these side formulas among its hypotheses.
abbrev pub put_under : Goal → ℕ → Assertion → List Sep → List PlainFormula → List Goal
put_under goal k source new kept =
    from_source goal (enriched (context_of goal) kept) (with_parts source (in_place k new source.parts)) ∷ []

abbrev pub IsPutUnder : Goal → ℕ → Assertion → Plan → Answer → Type 0
IsPutUnder goal k source plan = Sided (context_of goal) plan.sides (put_under goal k source plan.new)

abbrev pub PutsUnder : Goal → ℕ → (Sep → Result Plan No) → Assertion × Sep → Answer → Type 0
PutsUnder goal k planned found = OfResult (planned found.1) (IsPutUnder goal k found.0)

-- a command that puts parts in place of one, where side formulas are true
abbrev pub InPlaceUnder : Goal → ℕ → (Sep → Result Plan No) → Answer → Type 0
InPlaceUnder goal k planned = OfResult (part_of goal k) (PutsUnder goal k planned)

-- The same without side formulas.
abbrev pub IsPut : Goal → ℕ → Assertion → List Sep → Answer → Type 0
IsPut goal k source new answer =
    answer ≡ Ok (from_source goal (after_command (context_of goal)) (with_parts source (in_place k new source.parts)) ∷ [])

abbrev pub Puts : Goal → ℕ → (Sep → Result (List Sep) No) → Assertion × Sep → Answer → Type 0
Puts goal k changed found = OfResult (changed found.1) (IsPut goal k found.0)

abbrev pub InPlace : Goal → ℕ → (Sep → Result (List Sep) No) → Answer → Type 0
InPlace goal k changed = OfResult (part_of goal k) (Puts goal k changed)
