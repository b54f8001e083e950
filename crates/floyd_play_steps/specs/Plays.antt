-- A proof played on its start goals: its commands in order, and then its QED.
use Rattle.std.specs.Prelude.{◌≡◌, ℕ, List, [], ◌∷◌, take, length, Some, None, Result, Ok, Err}
use Rattle.floyd_text.specs.declared.code.Code.TheVariants.{GoalsTooLarge, OpenGoals}
use Rattle.floyd_text.specs.declared.place.Place.{Place}
use Rattle.floyd_text.specs.declared.refusal.No.{No}
use Rattle.floyd_text.specs.declared.refusal.Refusal.{Refusal}
use Rattle.floyd_text.specs.declared.refusal.Shown.TheVariants.{Nothing, Count}
use Rattle.floyd_text.specs.Refusals.{refusal_at}
use Rattle.floyd_assert_trees.specs.declared.items.Defs.{Defs}
use Rattle.floyd_assert_trees.specs.declared.spec.SpecTable.{SpecTable}
use Rattle.floyd_clight.specs.declared.unit.Local.{Local}
use Rattle.floyd_goal.specs.Stacks.{pushed}
use Rattle.floyd_goal_trees.specs.declared.goal.Goal.{Goal}
use Rattle.floyd_script_trees.specs.declared.trees.Command.{Command}
use Rattle.floyd_script_trees.specs.declared.trees.Proof.{Proof}
use Rattle.floyd_play_steps.specs.declared.shot.Shot.{Shot}
use Rattle.floyd_play_steps.specs.declared.state.PlayState.{PlayState}
use Rattle.floyd_play_steps.specs.declared.state.Start.{Start}
use Rattle.floyd_play_steps.specs.Numbers.{first_number}
use Rattle.floyd_play_steps.specs.Steps.{Played, Advances, with_goals}

-- before anything is made
abbrev pub nothing_made : List Local → PlayState
nothing_made blocks = record { stack = []; made = 0; numbers = []; blocks = blocks }

-- a start that is beyond the limit is refused at the proof's name
abbrev pub started_by : Place → List Local → ℕ → Result (List Goal) No → Played
started_by place blocks count (Ok left) = Ok (with_goals (nothing_made blocks) count left)
started_by place blocks count (Err why) = Err (refusal_at GoalsTooLarge place Nothing)

-- the start goals, whose numbers begin with 1
abbrev pub started : Place → Start → Played
started place start = started_by place start.blocks (length start.goals) (pushed start.goals [])

module _ (defs : Defs) (specs : SpecTable) where
  -- commands one after another; the first refusal ends them
  abbrev pub Goes : List Command → Played → Played → Type 0
  Goes cs (Err why) played = played ≡ Err why
  Goes [] (Ok s) played = played ≡ Ok s
  Goes (c ∷ cs) (Ok s) played = (next : Played) × Advances c s defs specs next × Goes cs next played

  -- the commands of a proof, on its start
  abbrev pub Plays : Place → List Command → Start → Played → Type 0
  Plays place commands start = Goes commands (started place start)

-- at QED nothing is left
abbrev pub at_end_of : Place → List Goal → Result (Unit {0}) Refusal
at_end_of end [] = Ok tt
at_end_of end (g ∷ gs) = Err (refusal_at OpenGoals end (Count (length (g ∷ gs))))

abbrev pub at_end : Place → Played → Result (Unit {0}) Refusal
at_end end (Ok s) = at_end_of end s.stack
at_end end (Err why) = Err why

-- the proof is done, or its first refusal
abbrev pub IsPlayed : Defs → SpecTable → Proof → Start → Result (Unit {0}) Refusal → Type 0
IsPlayed defs specs proof start answer =
    (played : Played) × Plays defs specs proof.place proof.commands start played × (answer ≡ at_end proof.end played)

-- What is shown of a state: the first goal, its number, and how many are left. Where none is left the numbers are 0.
abbrev pub shot_of : List ℕ → List Goal → Shot
shot_of numbers [] = record { goal = None; number = 0; left = 0 }
shot_of numbers (g ∷ gs) = record { goal = Some g; number = first_number numbers; left = length (g ∷ gs) }

abbrev pub shown : Played → Result Shot Refusal
shown (Ok s) = Ok (shot_of s.numbers s.stack)
shown (Err why) = Err why

-- behind so many commands
abbrev pub IsShown : Defs → SpecTable → Proof → Start → ℕ → Result Shot Refusal → Type 0
IsShown defs specs proof start n answer =
    (played : Played) × Plays defs specs proof.place (take n proof.commands) start played × (answer ≡ shown played)
