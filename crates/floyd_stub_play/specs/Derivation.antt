-- The commands of a script, each in place of the first goal that is left.
use Rattle.std.specs.Prelude.{ℕ, ◌+◌, List, [], ◌∷◌, ◌++◌, length, Result, Ok, Err}
use Rattle.floyd_text.specs.declared.code.Code.TheVariants.{OpenGoals, NoGoal}
use Rattle.floyd_text.specs.declared.place.Place.{Place}
use Rattle.floyd_text.specs.declared.refusal.No.{No}
use Rattle.floyd_text.specs.declared.refusal.Refusal.{Refusal}
use Rattle.floyd_text.specs.declared.refusal.Shown.TheVariants.{Nothing, Count}
use Rattle.floyd_text.specs.Refusals.{refusal_at, refusal_in}
use Rattle.floyd_stub_goal.specs.declared.goal.Goal.{Goal}
use Rattle.floyd_stub_goal.specs.declared.stack.Numbered.{Numbered}
use Rattle.floyd_stub_goal.specs.declared.script.Command.{Command}
use Rattle.floyd_stub_goal.specs.declared.script.Proof.{Proof}
use Rattle.floyd_stub_goal.specs.Starts.{numbered, Play, play_start}
use Rattle.floyd_stub_play.specs.Rows.{row}

-- at QED nothing is left
abbrev pub at_end : Place → List Numbered → Result (Unit {0}) Refusal
at_end end [] = Ok tt
at_end end (g ∷ gs) = Err (refusal_at OpenGoals end (Count (length (g ∷ gs))))

-- no goal is left for a command
abbrev pub no_goal : No
no_goal = record { code = NoGoal; shown = Nothing }

abbrev pub on_row : Command → ℕ → ℕ → List Numbered → Result (List Goal) No → Result Play Refusal
on_row c next number left (Err e) = Err (refusal_in c.rule c.place number e)
on_row c next number left (Ok made) = Ok (record { next = next + length made; left = numbered next made ++ left })

abbrev pub on_first : Command → ℕ → List Numbered → Result Play Refusal
on_first c next [] = Err (refusal_in c.rule c.place 0 no_goal)
on_first c next (g ∷ gs) = on_row c next g.number gs (row c.rule g.goal)

-- a command puts what its row makes in the place of the first goal
abbrev pub after : Command → Play → Result Play Refusal
after c p = on_first c p.next p.left

abbrev pub then_play : Result Play Refusal → (Play → Result (Unit {0}) Refusal) → Result (Unit {0}) Refusal
then_play (Err e) f = Err e
then_play (Ok p) f = f p

-- the commands in order, and then QED at that place
abbrev pub played_from : List Command → Place → Play → Result (Unit {0}) Refusal
played_from [] end p = at_end end p.left
played_from (c ∷ cs) end p = then_play (after c p) (played_from cs end)

-- the proof played on its start
abbrev pub played : Proof → Goal → Result (Unit {0}) Refusal
played proof goal = played_from proof.commands proof.end (play_start goal)
