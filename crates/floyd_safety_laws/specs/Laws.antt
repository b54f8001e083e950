-- Safety for n steps, of the configurations of a program to the ways out of goals.
use Rattle.std.specs.Prelude.{ℕ, suc, List, Option, ◌∷◌}
use Rattle.floyd_clight_heap.specs.Heaplet.{Heaplet, Joins}
use Rattle.floyd_clight_machine.specs.Exits.{Exit, Level, Part, Whole, resume, under}
use Rattle.floyd_clight_machine.specs.Looking.{Ident}
use Rattle.floyd_clight_machine.specs.Machine.{Act, Config, Kcall, Kont}
use Rattle.floyd_clight_runs.specs.Safe.{Exits, Safe}
use Rattle.floyd_tree_values.specs.BuiltIns.{Env}
use Rattle.floyd_goal_trees.specs.declared.exits.Exits as g
use Rattle.floyd_goal_meaning.specs.declared.linked.Linked.{Linked}
use Rattle.floyd_goal_meaning.specs.GoalHolds.{goal_exits}
use Rattle.floyd_goal_meaning.specs.Programs.{Further, Places, setting}
use Rattle.floyd_goal_meaning.specs.Worlds.{world}

-- P of each program, with further external functions, in blocks for its names
abbrev pub OfPrograms : (Linked → List Further → Places → Type 0) → Type 0
OfPrograms P = (L : Linked) (more : List Further) (place : Places) → P L more place

-- the ways out of a goal under an environment
abbrev pub ways : Linked → List Further → Places → Env → g.Exits → Exits
ways L more place env exits = goal_exits (setting L more place) env exits

-- Fewer steps.
abbrev pub StepsMayBeFewer : Type 0
StepsMayBeFewer = OfPrograms (λ L more place.
    (l : Level) (n : ℕ) (c : Config) (h : Heaplet) (env : Env) (exits : g.Exits) →
    Safe (world L more place) l (suc n) c h (ways L more place env exits) → Safe (world L more place) l n c h (ways L more place env exits))

-- Consequence.
abbrev pub WaysOutMayBeWeaker : Type 0
WaysOutMayBeWeaker = OfPrograms (λ L more place.
    (l : Level) (n : ℕ) (c : Config) (h : Heaplet) (env other : Env) (exits weaker : g.Exits) →
    ((x : Exit) (k : Heaplet) → ways L more place env exits x k → ways L more place other weaker x k) →
    Safe (world L more place) l n c h (ways L more place env exits) → Safe (world L more place) l n c h (ways L more place other weaker))

-- with the heaplet f besides
abbrev pub with_more : Heaplet → Exits → Exits
with_more f E x k = (h : Heaplet) × Joins h f k × E x h

-- The frame.
abbrev pub MemoryMayStandBeside : Type 0
MemoryMayStandBeside = OfPrograms (λ L more place.
    (l : Level) (n : ℕ) (c : Config) (h f k : Heaplet) (env : Env) (exits : g.Exits) → Joins h f k →
    Safe (world L more place) l n c h (ways L more place env exits) → Safe (world L more place) l n c k (with_more f (ways L more place env exits)))

-- On from each way out, above the frames r.
abbrev pub GoesOn : Linked → List Further → Places → Level → Kont → Type 0
GoesOn L more place l r =
    (j : Level) (n : ℕ) (c : Config) (h : Heaplet) (env other : Env) (exits later : g.Exits) →
    ((x : Exit) (k : Heaplet) → ways L more place env exits x k → Safe (world L more place) j n (resume r x) k (ways L more place other later)) →
    Safe (world L more place) l n c h (ways L more place env exits) → Safe (world L more place) j n (under r c) h (ways L more place other later)

-- a part of a function, above any frames
abbrev pub PartsGoOn : Type 0
PartsGoOn = OfPrograms (λ L more place. (r : Kont) → GoesOn L more place Part r)

-- a whole call, above the frame of its caller
abbrev pub CallsGoOn : Type 0
CallsGoOn = OfPrograms (λ L more place. (to : Option Ident) (act : Act) (r : Kont) → GoesOn L more place Whole (Kcall to act ∷ r))
