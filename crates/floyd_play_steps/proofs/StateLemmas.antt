-- What a command answers on a state, by what the calls in it answered.
use Rattle.std.proofs.Common.{◌≡◌, ℕ, List, [], ◌∷◌, drop, Result, Ok, Err, refl, ap, sym, subst, ◌∙◌}
use Rattle.floyd_text.specs.declared.refusal.Halt.{Halt}
use Rattle.floyd_text.specs.declared.refusal.Halt.TheVariants.{Refused, Memory}
use Rattle.floyd_text.specs.declared.refusal.No.{No}
use Rattle.floyd_text.specs.declared.refusal.RuleStop.{RuleStop}
use Rattle.floyd_text.specs.declared.refusal.RuleStop.TheVariants as r
use Rattle.floyd_text.specs.Gives.{Gives}
use Rattle.floyd_assert_trees.specs.declared.items.Defs.{Defs}
use Rattle.floyd_assert_trees.specs.declared.spec.SpecTable.{SpecTable}
use Rattle.floyd_goal.specs.Answers.{IsAnswer as IsRowAnswer}
use Rattle.floyd_goal_forms.specs.Goals.{IsWellFormed}
use Rattle.floyd_goal_trees.specs.declared.args.Args.{Args}
use Rattle.floyd_goal_trees.specs.declared.goal.Goal.{Goal}
use Rattle.floyd_script_trees.specs.declared.trees.Command.{Command}
use Rattle.floyd_play_reading.specs.Answers.{IsAnswer}
use Rattle.floyd_play_reading.specs.Arguments.{AreRead}
use Rattle.floyd_play_rows.specs.Rows.{Row}
use Rattle.floyd_play_steps.specs.declared.state.PlayState.{PlayState}
use Rattle.floyd_play_steps.specs.Numbers.{first_number}
use Rattle.floyd_play_steps.specs.StepClauses.{halt_of}
use Rattle.floyd_play_steps.specs.Steps.{Advances, FirstIsWellFormed, Makes, OnGoals, no_goal, put}

module _ (c : Command) (s : PlayState) (defs : Defs) (specs : SpecTable) where
  -- the row is refused
  row_stopped : (goal : Goal) (args : Args) (stop : RuleStop) → AreRead c.bytes c.tokens defs specs s.blocks goal c.rule (Ok args) → IsRowAnswer (Row defs c.rule goal args) (Err stop) → IsAnswer (Makes c s defs specs goal) (Err (halt_of c (first_number s.numbers) stop))
  row_stopped goal args (r.No why) read row = (Ok args, read, (Err why, row, refl))
  row_stopped goal args r.Memory read row = tt

  pub row_stops : (goal : Goal) (args : Args) (stop : RuleStop) (halt : Halt) (n : ℕ) → halt ≡ halt_of c n stop → n ≡ first_number s.numbers → AreRead c.bytes c.tokens defs specs s.blocks goal c.rule (Ok args) → IsRowAnswer (Row defs c.rule goal args) (Err stop) → IsAnswer (Makes c s defs specs goal) (Err halt)
  row_stops goal args stop halt n is number read row =
      subst (λ (h : Halt). IsAnswer (Makes c s defs specs goal) (Err h)) (sym (is ∙ ap (λ (k : ℕ). halt_of c k stop) number)) (row_stopped goal args stop read row)

  -- no goal is left
  pub meets_none : (halt : Halt) (why : No) → s.stack ≡ [] → halt ≡ halt_of c 0 (r.No why) → why ≡ no_goal → IsAnswer (Advances c s defs specs) (Err halt)
  meets_none halt why none is same =
      subst (λ (h : Halt). IsAnswer (Advances c s defs specs) (Err h)) (sym (is ∙ ap (λ (n : No). halt_of c 0 (r.No n)) same))
      (subst (λ (gs : List Goal). IsAnswer (OnGoals c s defs specs gs) (Err (halt_of c 0 (r.No no_goal)))) (sym none) refl)

  pub on_first : (goal : Goal) → s.stack ≡ goal ∷ drop 1 s.stack → FirstIsWellFormed defs specs s.stack → IsWellFormed defs specs goal
  on_first goal first h = subst (FirstIsWellFormed defs specs) first h

  -- the first goal is refused
  pub stops_at : (goal : Goal) (halt : Halt) → s.stack ≡ goal ∷ drop 1 s.stack → IsAnswer (Makes c s defs specs goal) (Err halt) → IsAnswer (Advances c s defs specs) (Err halt)
  stops_at goal (Refused refusal) first h = subst (λ (gs : List Goal). OnGoals c s defs specs gs (Err refusal)) (sym first) (Err refusal, h, refl)
  stops_at goal Memory first h = tt

  -- the goals that were made are put there
  pub puts : (goal : Goal) (made : List Goal) (result : Result PlayState Halt) → s.stack ≡ goal ∷ drop 1 s.stack → Makes c s defs specs goal (Ok made) → Gives (λ t. t) result (put c s made) → IsAnswer (Advances c s defs specs) result
  puts goal made (Ok t) first h e = subst (λ (gs : List Goal). OnGoals c s defs specs gs (Ok t)) (sym first) (Ok made, h, sym e)
  puts goal made (Err (Refused refusal)) first h e = subst (λ (gs : List Goal). OnGoals c s defs specs gs (Err refusal)) (sym first) (Ok made, h, sym e)
  puts goal made (Err Memory) first h e = tt
