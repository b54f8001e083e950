-- Safety for n steps: of a configuration with its own frames above an unknown rest, and of a heaplet beside any other.
use Rattle.std.specs.Prelude.{ℕ, zero, suc, List, [], ◌∷◌, Option, Some, None}
use Rattle.floyd_int.specs.declared.kinds.Value.{Value}
use Rattle.floyd_clight_memory.specs.Memory.{Mem}
use Rattle.floyd_clight_machine.specs.Looking.{Ident, Spot}
use Rattle.floyd_clight_machine.specs.Machine.{Config, Returning, Outcome, Next, Asks, Ended, Stuck, step}
use Rattle.floyd_clight_machine.specs.Touched.{reads, writes}
use Rattle.floyd_clight_machine.specs.Exits.{Exit, Level, exit_of}
use Rattle.floyd_clight_machine.specs.Bounds.{Bounds}
use Rattle.floyd_clight_heap.specs.Heaplet.{Heaplet, Joins, Fits, Within, Owned}
use Rattle.floyd_clight_runs.specs.World.{World}
use Rattle.floyd_clight_runs.specs.Runs.{IsLawful}

-- what must hold of a way out and the heaplet there
abbrev pub Exits : Type 1
Exits = Exit → Heaplet → Type 0

abbrev pub AllWithin : Heaplet → List Spot → Type 0
AllWithin h [] = Unit {0}
AllWithin h (s ∷ ss) = Within h s.block s.offset × AllWithin h ss

abbrev pub AllOwned : Heaplet → List Spot → Type 0
AllOwned h [] = Unit {0}
AllOwned h (s ∷ ss) = Owned h s.block s.offset × AllOwned h ss

-- with the same frame F, the configuration c is next in the memory m
abbrev pub Lands : (Config → Heaplet → Type 0) → Heaplet → Config → Mem → Type 0
Lands next F c m = (h : Heaplet) × (k : Heaplet) × Joins h F k × Fits k m × next c h

-- a part of the heaplet meets the precondition
abbrev pub MayAsk : World → Heaplet → Ident → List Value → Type 0
MayAsk W h f args = (x : W.own.With) × (h0 : Heaplet) × (h1 : Heaplet) × Joins h0 h1 h × W.own.pre f x args h0

-- a step leads on beside the same frame; a wait is for a function whose precondition is met, and each lawful answer leads on
abbrev pub StepsTo : World → (Config → Heaplet → Type 0) → Heaplet → Heaplet → Mem → Outcome → Type 0
StepsTo W next h F m (Next c n) = Lands next F c n
StepsTo W next h F m (Asks f args k) = MayAsk W h f args × ((v : Value) (n : Mem) → IsLawful W f args m v n → Lands next F (Returning v k) n)
StepsTo W next h F m (Ended v) = ⊥
StepsTo W next h F m Stuck = ⊥

-- and what is loaded lies in the heaplet, and what is stored or freed at places of it that no other heaplet can have
pub record Ahead (W : World) (next : Config → Heaplet → Type 0) (c : Config) (h F : Heaplet) (m : Mem) : Type 0 where
  pub steps : StepsTo W next h F m (step W.program c m)
  pub reads : AllWithin h (reads W.program c m)
  pub writes : AllOwned h (writes W.program c m)

-- at a way out it must hold; else a step goes on, beside every frame F and in every memory that the sum fits
abbrev pub Now : World → (Config → Heaplet → Type 0) → Config → Heaplet → Exits → Option Exit → Type 0
Now W next c h E (Some e) = E e h
Now W next c h E None = (F k : Heaplet) (m : Mem) → Joins h F k → Fits k m → Bounds W.program c m → Ahead W next c h F m

abbrev pub Safe : World → Level → ℕ → Config → Heaplet → Exits → Type 0
Safe W l zero c h E = Unit {0}
Safe W l (suc n) c h E = Now W (λ d g. Safe W l n d g E) c h E (exit_of l c)
