-- When a goal follows from others.
use Rattle.std.specs.Prelude.{◌≡◌, ◌⊎◌, ℕ, List, [], ◌∷◌}
use Rattle.std.specs.List.{AllByRecursion}
use Rattle.floyd_clight_heap.specs.Heaplet.{Heaplet}
use Rattle.floyd_clight_machine.specs.Evaluation.{Temps}
use Rattle.floyd_clight_machine.specs.Exits.{Exit}
use Rattle.floyd_clight_machine.specs.Machine.{Act}
use Rattle.floyd_tree_values.specs.BuiltIns.{Env}
use Rattle.floyd_truth.specs.Truth.{Truth}
use Rattle.floyd_assert_trees.specs.declared.items.Defs.{Defs}
use Rattle.floyd_assert_trees.specs.declared.spec.SpecTable.{SpecTable}
use Rattle.floyd_assert_meaning.specs.Assertions.{Holds}
use Rattle.floyd_assert_meaning.specs.Settings.{Setting}
use Rattle.floyd_goal_trees.specs.Contexts.{context_of}
use Rattle.floyd_goal_trees.specs.declared.context.Context.{Context}
use Rattle.floyd_goal_trees.specs.declared.goal.Entail as e
use Rattle.floyd_goal_trees.specs.declared.goal.Goal.{Goal}
use Rattle.floyd_goal_trees.specs.declared.goal.Goal.TheVariants.{Run, Entail, Pure}
use Rattle.floyd_goal_trees.specs.declared.goal.Run as r
use Rattle.floyd_goal_meaning.specs.GoalHolds.{Given, HoldsFor, InEach, Stands, goal_exits}
use Rattle.floyd_goal_meaning.specs.Programs.{setting}

-- The same statements, from a source that is met where the first one is, to exits where the first ones are met.
pub record RunFollows (S : Setting) (env other : Env) (run made : r.Run) : Type 0 where
  pub rest : run.rest ≡ made.rest
  pub source : (act : Act) (h : Heaplet) → Stands S env run.exits.ret run.source act h → Stands S other made.exits.ret made.source act h
  pub exits : (x : Exit) (h : Heaplet) → goal_exits S other made.exits x h → goal_exits S env run.exits x h

pub record EntailFollows (S : Setting) (env other : Env) (entail made : e.Entail) : Type 0 where
  pub source : (temps : Temps) (h : Heaplet) → Holds S env entail.source temps h → Holds S other made.source temps h
  pub target : (temps : Temps) (h : Heaplet) → Holds S other made.target temps h → Holds S env entail.target temps h

-- what the first goal says of the first environment follows from what the other says of the other
abbrev pub Follows : Setting → Env → Env → Goal → Goal → Type 0
Follows S env other (Run run) (Run made) = RunFollows S env other run made
Follows S env other (Entail entail) (Entail made) = EntailFollows S env other entail made
Follows S env other (Pure pure) (Pure made) = Truth S.defs S.has_spec other made.target → Truth S.defs S.has_spec env pure.target
Follows S env other goal made = ⊥

-- what the goal says of the environment follows from one of the others, at an environment that is given for its context
abbrev pub FollowsFrom : Setting → Defs → Env → Goal → List Goal → Type 0
FollowsFrom S defs env goal [] = ⊥
FollowsFrom S defs env goal (made ∷ more) = ((other : Env) × Given S defs (context_of made) other × Follows S env other goal made) ⊎ FollowsFrom S defs env goal more

-- P of each environment that is given for a context, in each program
abbrev pub Throughout : Defs → SpecTable → Context → (Setting → Env → Type 0) → Type 0
Throughout defs specs context P =
    InEach defs specs (λ L more place. (env : Env) → Given (setting L more place) defs context env → P (setting L more place) env)

-- A goal holds where each environment that is given for it has one of other goals that hold, from which it follows there.
abbrev pub GoalsFollow : Type 0
GoalsFollow =
    (defs : Defs) (specs : SpecTable) (n : ℕ) (goal : Goal) (goals : List Goal) →
    Throughout defs specs (context_of goal) (λ S env. FollowsFrom S defs env goal goals) → AllByRecursion (HoldsFor defs specs n) goals → HoldsFor defs specs n goal
