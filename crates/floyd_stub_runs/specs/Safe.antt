-- Safety for n steps: of a configuration with its own frames above an unknown rest, and of a heaplet beside any other.
use Rattle.std.specs.Prelude.{◌≡◌, ◌≢◌, ℕ, zero, suc, ◌<◌, true, List, [], ◌∷◌, ◌++◌, Option, Some, None}
use Rattle.floyd_int.specs.declared.kinds.Value.{Value}
use Rattle.floyd_clight_memory.specs.Memory.{Mem, Block, Local, Freeable, all_include, nth}
use Rattle.floyd_clight.specs.declared.syntax.Stmt.{Stmt, Skip, Set, Assign, Call, Seq', If', Loop', Break, Continue, Return, Switch'}
use Rattle.floyd_stub_machine.specs.Evaluation.{Ident}
use Rattle.floyd_stub_machine.specs.Machine.{Act, LocalBlock, Config, Run, Calling, Returning, Kseq, Kloop1, Kloop2, Kcall, Kont, Outcome, Next, Asks, Ended, Stuck, Spot, step, reads, writes}
use Rattle.floyd_stub_assert.specs.Heaplet.{Heaplet, Joins, Fits, Within, Owned}
use Rattle.floyd_stub_assert.specs.Data.{Env}
use Rattle.floyd_stub_runs.specs.World.{World}
use Rattle.floyd_stub_runs.specs.Runs.{IsLawful, has_result}

-- the ways out of a part of a function, or of a whole call
pub data Exit : Type 0 where
  Normal Broke Continued : (act : Act) → Exit
  Returned : (v : Value) → Exit

-- what must hold of a way out and the heaplet there
abbrev pub Exits : Type 1
Exits = Exit → Heaplet → Type 0

pub data Level : Type 0 where
  Part Whole : Level

abbrev pub local_exit : Level → Stmt → Act → Option Exit
local_exit Part Skip act = Some (Normal act)
local_exit Part (Set x e) act = None
local_exit Part (Assign p e) act = None
local_exit Part (Call to f es) act = None
local_exit Part (Seq' shape all) act = None
local_exit Part (If' e p a q b) act = None
local_exit Part (Loop' p a q b) act = None
local_exit Part Break act = Some (Broke act)
local_exit Part Continue act = Some (Continued act)
local_exit Part (Return e) act = None
local_exit Part (Switch' e shape cases) act = None
local_exit Whole s act = None

-- a way out, where no own frame is left
abbrev pub exit_of : Level → Config → Option Exit
exit_of l (Run s [] act) = local_exit l s act
exit_of l (Run s (f ∷ k) act) = None
exit_of l (Calling f args k) = None
exit_of l (Returning v []) = Some (Returned v)
exit_of l (Returning v (f ∷ k)) = None

-- the block of a local variable, which may be freed whole
pub record IsLocal (m : Mem) (block : ℕ) : Type 0 where
  pub there : Block
  pub is : nth m block ≡ Some there
  pub kind : there.kind ≡ Local
  pub whole : all_include Freeable there.slots ≡ true

abbrev pub IsApart : ℕ → List LocalBlock → Type 0
IsApart block [] = Unit {0}
IsApart block (b ∷ bs) = (block ≢ b.block) × IsApart block bs

-- they are distinct, and each may be freed whole
abbrev pub AllIn : List LocalBlock → Mem → Type 0
AllIn [] m = Unit {0}
AllIn (b ∷ bs) m = IsLocal m b.block × IsApart b.block bs × AllIn bs m

abbrev pub kont_blocks : Kont → List LocalBlock
kont_blocks [] = []
kont_blocks (Kseq s ∷ k) = kont_blocks k
kont_blocks (Kloop1 a b ∷ k) = kont_blocks k
kont_blocks (Kloop2 a b ∷ k) = kont_blocks k
kont_blocks (Kcall to act ∷ k) = act.blocks ++ kont_blocks k

abbrev pub config_blocks : Config → List LocalBlock
config_blocks (Run s k act) = act.blocks ++ kont_blocks k
config_blocks (Calling f args k) = kont_blocks k
config_blocks (Returning v k) = kont_blocks k

-- the blocks of the local variables are there
abbrev pub Bounds : Config → Mem → Type 0
Bounds c m = AllIn (config_blocks c) m

abbrev pub AllWithin : Heaplet → List Spot → Type 0
AllWithin h [] = Unit {0}
AllWithin h (s ∷ ss) = Within h s.block s.offset × AllWithin h ss

abbrev pub AllOwned : Heaplet → List Spot → Type 0
AllOwned h [] = Unit {0}
AllOwned h (s ∷ ss) = Owned h s.block s.offset × AllOwned h ss

-- with the same frame F, the configuration c is next in the memory m
abbrev pub Lands : (Config → Heaplet → Type 0) → Heaplet → Config → Mem → Type 0
Lands next F c m = (h : Heaplet) × (k : Heaplet) × Joins h F k × Fits k m × next c h

-- a part of the heaplet meets the precondition
abbrev pub MayAsk : World → Heaplet → Ident → List Value → Type 0
MayAsk W h f args = (x : Env) × (h0 : Heaplet) × (h1 : Heaplet) × Joins h0 h1 h × W.pre f x args h0

abbrev pub StepsTo : World → (Config → Heaplet → Type 0) → Heaplet → Heaplet → Mem → Outcome → Type 0
StepsTo W next h F m (Next c n) = Lands next F c n
StepsTo W next h F m (Asks f args k) = MayAsk W h f args × ((v : Value) (n : Mem) → IsLawful W f args m v n → Lands next F (Returning v k) n)
StepsTo W next h F m (Ended v) = ⊥
StepsTo W next h F m Stuck = ⊥

pub record Ahead (W : World) (next : Config → Heaplet → Type 0) (c : Config) (h F : Heaplet) (m : Mem) : Type 0 where
  pub steps : StepsTo W next h F m (step W.program c m)
  pub reads : AllWithin h (reads c m)
  pub writes : AllOwned h (writes c m)

-- at a way out it must hold; else a step goes on, beside every frame F and in every memory that the sum fits
abbrev pub Now : World → (Config → Heaplet → Type 0) → Config → Heaplet → Exits → Option Exit → Type 0
Now W next c h E (Some e) = E e h
Now W next c h E None = (F k : Heaplet) (m : Mem) → Joins h F k → Fits k m → Bounds c m → Ahead W next c h F m

abbrev pub Safe : World → Level → ℕ → Config → Heaplet → Exits → Type 0
Safe W l zero c h E = Unit {0}
Safe W l (suc n) c h E = Now W (λ d g. Safe W l n d g E) c h E (exit_of l c)

-- the one way out of a call
abbrev pub CallExits : World → Ident → Env → Exits
CallExits W f x (Normal act) h = ⊥
CallExits W f x (Broke act) h = ⊥
CallExits W f x (Continued act) h = ⊥
CallExits W f x (Returned v) h = (has_result (W.program.functions f) v ≡ true) × W.post f x v h

-- calls keep their specifications for n steps
abbrev pub KeepsFor : World → ℕ → Type 0
KeepsFor W n = (f : Ident) (x : Env) (args : List Value) (h : Heaplet) → W.pre f x args h → Safe W Whole n (Calling f args []) h (CallExits W f x)

abbrev pub KeepsBelow : World → ℕ → Type 0
KeepsBelow W n = (j : ℕ) → j < n → KeepsFor W j

-- the exits with another meaning of the normal one
abbrev pub with_normal : (Act → Heaplet → Type 0) → Exits → Exits
with_normal A E (Normal act) h = A act h
with_normal A E (Broke act) h = E (Broke act) h
with_normal A E (Continued act) h = E (Continued act) h
with_normal A E (Returned v) h = E (Returned v) h

-- the statements, one after the other, are safe for n steps each
abbrev pub SafeAll : World → ℕ → List Stmt → Exits → Act → Heaplet → Type 0
SafeAll W n [] E act h = E (Normal act) h
SafeAll W n (s ∷ ss) E act h = Safe W Part n (Run s [] act) h (with_normal (SafeAll W n ss E) E)
