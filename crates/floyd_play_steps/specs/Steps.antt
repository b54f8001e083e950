-- One command of a play: its arguments are read in the first goal's context, then its row is tried, and the goals of the row
-- take the first goal's place.
use Rattle.std.specs.Prelude.{◌≡◌, ℕ, ◌+◌, List, [], ◌∷◌, ◌++◌, drop, length, Result, Ok, Err}
use Rattle.floyd_text.specs.declared.code.Code.TheVariants.{NoGoal}
use Rattle.floyd_text.specs.declared.refusal.No.{No}
use Rattle.floyd_text.specs.declared.refusal.Refusal.{Refusal}
use Rattle.floyd_text.specs.Refusals.{refusal_in}
use Rattle.floyd_assert_trees.specs.declared.items.Defs.{Defs}
use Rattle.floyd_assert_trees.specs.declared.spec.SpecTable.{SpecTable}
use Rattle.floyd_goal.specs.Goals.{refusal}
use Rattle.floyd_goal.specs.Rows.{Answer}
use Rattle.floyd_goal.specs.Stacks.{pushed}
use Rattle.floyd_goal_trees.specs.declared.args.Args.{Args}
use Rattle.floyd_goal_trees.specs.declared.goal.Goal.{Goal}
use Rattle.floyd_goal_forms.specs.Goals.{IsWellFormed}
use Rattle.floyd_script_trees.specs.declared.trees.Command.{Command}
use Rattle.floyd_play_reading.specs.Arguments.{AreRead}
use Rattle.floyd_play_rows.specs.Rows.{Row}
use Rattle.floyd_play_steps.specs.declared.state.PlayState.{PlayState}
use Rattle.floyd_play_steps.specs.Numbers.{first_number, numbers_behind}

abbrev pub Played : Type 0
Played = Result PlayState Refusal

-- a command meets no goal
abbrev pub no_goal : No
no_goal = refusal NoGoal

-- the goal that a command meets is well formed
abbrev pub FirstIsWellFormed : Defs → SpecTable → List Goal → Type 0
FirstIsWellFormed defs specs [] = Unit {0}
FirstIsWellFormed defs specs (goal ∷ left) = IsWellFormed defs specs goal

-- with these goals left, of which so many were made in place of the first one
abbrev pub with_goals : PlayState → ℕ → List Goal → PlayState
with_goals s count left = record {
  stack = left;
  made = s.made + count;
  numbers = numbers_behind s.made count ++ drop 1 s.numbers;
  blocks = s.blocks;
}

module _ (c : Command) (s : PlayState) where
  -- a refusal of the row stands at the command, on the first goal
  abbrev pub refused : No → Refusal
  refused why = refusal_in c.rule c.place (first_number s.numbers) why

  abbrev pub at_command : Answer → Result (List Goal) Refusal
  at_command (Ok made) = Ok made
  at_command (Err why) = Err (refused why)

  -- so many were made, and this is left, within the limit of all that is left
  abbrev pub with_left : ℕ → Result (List Goal) No → Played
  with_left count (Ok left) = Ok (with_goals s count left)
  with_left count (Err why) = Err (refused why)

  -- the goals in place of the first one
  abbrev pub put : List Goal → Played
  put made = with_left (length made) (pushed made s.stack)

  abbrev pub after : Result (List Goal) Refusal → Played
  after (Ok made) = put made
  after (Err why) = Err why

  module _ (defs : Defs) (specs : SpecTable) where
    -- with these arguments, or their refusal, which is one of reading
    abbrev pub MakesWith : Goal → Result Args Refusal → Result (List Goal) Refusal → Type 0
    MakesWith goal (Ok args) made = (answer : Answer) × Row defs c.rule goal args answer × (made ≡ at_command answer)
    MakesWith goal (Err why) made = made ≡ Err why

    -- what the command makes of the first goal
    abbrev pub Makes : Goal → Result (List Goal) Refusal → Type 0
    Makes goal made = (args : Result Args Refusal) × AreRead c.bytes c.tokens defs specs s.blocks goal c.rule args × MakesWith goal args made

    abbrev pub OnGoals : List Goal → Played → Type 0
    OnGoals [] next = next ≡ Err (refusal_in c.rule c.place 0 no_goal)
    OnGoals (goal ∷ left) next = (made : Result (List Goal) Refusal) × Makes goal made × (next ≡ after made)

    -- what the command leaves of the state
    abbrev pub Advances : Played → Type 0
    Advances = OnGoals s.stack
