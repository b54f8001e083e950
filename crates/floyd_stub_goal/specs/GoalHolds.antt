-- When a goal holds, for n steps of the machine.
use Rattle.std.specs.Prelude.{◌≡◌, ℕ, true, []}
use Rattle.floyd_int.specs.declared.kinds.Value.{Value}
use Rattle.floyd_ctypes.specs.declared.ctype.CType.{CType}
use Rattle.floyd_ctypes.specs.Has.{has}
use Rattle.floyd_stub_machine.specs.Evaluation.{Temps}
use Rattle.floyd_stub_machine.specs.Machine.{Act}
use Rattle.floyd_stub_assert.specs.declared.assertion.Assertion.{Assertion}
use Rattle.floyd_stub_assert.specs.Heaplet.{Heaplet}
use Rattle.floyd_stub_assert.specs.Data.{Val, Env, value}
use Rattle.floyd_stub_assert.specs.Truth.{Truth, AllTrue}
use Rattle.floyd_stub_assert.specs.Assertions.{PartsHold, Holds}
use Rattle.floyd_stub_goal.specs.declared.goal.Goal.{Goal}
use Rattle.floyd_stub_goal.specs.declared.goal.Goal.TheVariants.{Run, Entail, Pure}
use Rattle.floyd_stub_goal.specs.declared.goal.Exits.{Exits}
use Rattle.floyd_stub_goal.specs.declared.goal.Return as r
use Rattle.floyd_stub_runs.specs.World.{World}
use Rattle.floyd_stub_runs.specs.Linked.{Linked, world}
use Rattle.floyd_stub_runs.specs.Safe.{Exit, Normal, Broke, Continued, Returned, KeepsBelow, SafeAll}

-- an activation without local blocks meets an assertion
pub record Stands (x : Env) (result : CType) (a : Assertion) (act : Act) (h : Heaplet) : Type 0 where
  pub typed : act.result ≡ result
  pub blocks : act.blocks ≡ []
  pub holds : Holds x a act.temps h

-- what is returned meets the postcondition
pub record Gives (x : Env) (ret : r.Return) (v : Value) (h : Heaplet) : Type 0 where
  pub typed : has ret.result v ≡ true
  pub prop : AllTrue x ret.post.prop
  pub returned : value x ret.value ≡ Val v
  pub sep : PartsHold ret.post.sep h

-- the ways out are met; there is none for break and continue yet
abbrev pub Leaves : Env → Exits → Exit → Heaplet → Type 0
Leaves x e (Normal act) h = Stands x e.ret.result e.normal act h
Leaves x e (Broke act) h = ⊥
Leaves x e (Continued act) h = ⊥
Leaves x e (Returned v) h = Gives x e.ret v h

abbrev pub GoalHolds : World → ℕ → Goal → Type 0
GoalHolds W n (Run r) =
    (x : Env) → AllTrue x r.context.hypotheses → KeepsBelow W n
    → (act : Act) (h : Heaplet) → Stands x r.exits.ret.result r.source act h → SafeAll W n r.rest (Leaves x r.exits) act h
GoalHolds W n (Entail e) =
    (x : Env) → AllTrue x e.context.hypotheses → (temps : Temps) (h : Heaplet) → Holds x e.source temps h → Holds x e.target temps h
GoalHolds W n (Pure p) = (x : Env) → AllTrue x p.context.hypotheses → Truth x p.target

-- the goal holds for n steps in every linked program
pub record HoldsFor (n : ℕ) (g : Goal) : Type 0 where
  pub in_each : (L : Linked) → GoalHolds (world L) n g
