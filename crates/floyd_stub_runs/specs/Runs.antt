-- Runs of a program, in which external functions give the answers of a list.
use Rattle.std.specs.Prelude.{◌≡◌, ℕ, zero, suc, ◌≤◌, Bool, true, false, ◌⊎◌, List, [], ◌∷◌, map, Option, Some, None}
use Rattle.floyd_int.specs.declared.kinds.Value.{Value}
use Rattle.floyd_clight_memory.specs.Memory.{Mem, Block, Slot, Kind, Global, Local, Ext as ExtKind, Function, Perm, nth, next}
use Rattle.floyd_ctypes.specs.Has.{has}
use Rattle.floyd_stub_machine.specs.Evaluation.{Ident}
use Rattle.floyd_stub_machine.specs.Machine.{Config, Run, Calling, Returning, Kont, Outcome, Next, Asks, Ended, Stuck, Def, Own, Ext, step}
use Rattle.floyd_stub_assert.specs.Heaplet.{Heaplet, Joins, Fits}
use Rattle.floyd_stub_assert.specs.Data.{Env}
use Rattle.floyd_stub_runs.specs.World.{World}

-- the value is one of the function's result type
abbrev pub has_result : Option Def → Value → Bool
has_result None v = false
has_result (Some (Own fn)) v = has fn.result v
has_result (Some (Ext result)) v = has result v

-- A call in memory m that gives v in memory n keeps the specification: for all WITH values, and each heaplet h that meets
-- the precondition beside any F, some heaplet meets the postcondition, and F is untouched.
abbrev pub Meets : World → Ident → List Value → Mem → Value → Mem → Type 0
Meets W f args m v n =
    (x : Env) (h F k : Heaplet) → Joins h F k → Fits k m → W.pre f x args h
    → (h' : Heaplet) × (k' : Heaplet) × W.post f x v h' × Joins h' F k' × Fits k' n

abbrev pub is_ext : Kind → Bool
is_ext Global = false
is_ext Local = false
is_ext ExtKind = true
is_ext Function = false

abbrev pub perms : List Slot → List (Option Perm)
perms slots = map (λ (s : Slot). s.perm) slots

-- both are of one kind and one size, with the same permissions
pub record Alike (b c : Block) : Type 0 where
  pub kind : c.kind ≡ b.kind
  pub perms : perms c.slots ≡ perms b.slots

-- all blocks but those of external functions keep kind, size and permissions, and no other block is of their kinds
pub record Keeps (m n : Mem) : Type 0 where
  pub kept : (block : ℕ) (b : Block) → nth m block ≡ Some b → is_ext b.kind ≡ false → (c : Block) × (nth n block ≡ Some c) × Alike b c
  pub no_other : (block : ℕ) (c : Block) → nth n block ≡ Some c → is_ext c.kind ≡ false → (b : Block) × (nth m block ≡ Some b) × Alike b c
  pub later : next m ≤ next n

-- the external f may answer a call in m with v and the memory n
pub record IsLawful (W : World) (f : Ident) (args : List Value) (m : Mem) (v : Value) (n : Mem) : Type 0 where
  pub meets : Meets W f args m v n
  pub keeps : Keeps m n
  pub fits : has_result (W.program.functions f) v ≡ true

-- an answer of an external function
pub record Answer : Type 0 where
  pub value : Value
  pub mem : Mem

pub record State : Type 0 where
  pub config : Config
  pub mem : Mem

abbrev pub run_on : (List Answer → Config → Mem → List State) → List Answer → Outcome → List State
run_on go answers (Next c m) = go answers c m
run_on go [] (Asks f args k) = []
run_on go (a ∷ answers) (Asks f args k) = go answers (Returning a.value k) a.mem
run_on go answers (Ended v) = []
run_on go answers Stuck = []

-- the states of at most n steps
abbrev pub run : World → ℕ → List Answer → Config → Mem → List State
run W zero answers c m = record { config = c; mem = m } ∷ []
run W (suc n) answers c m = record { config = c; mem = m } ∷ run_on (run W n) answers (step W.program c m)

abbrev pub lawful_on : World → (List Answer → Config → Mem → Type 0) → List Answer → Mem → Outcome → Type 0
lawful_on W go answers m (Next c n) = go answers c n
lawful_on W go [] m (Asks f args k) = Unit {0}
lawful_on W go (a ∷ answers) m (Asks f args k) = IsLawful W f args m a.value a.mem × go answers (Returning a.value k) a.mem
lawful_on W go answers m (Ended v) = Unit {0}
lawful_on W go answers m Stuck = Unit {0}

-- each answer that is used within n steps is lawful at its call
abbrev pub AllLawful : World → ℕ → List Answer → Config → Mem → Type 0
AllLawful W zero answers c m = Unit {0}
AllLawful W (suc n) answers c m = lawful_on W (AllLawful W n) answers m (step W.program c m)

-- it goes on, has ended, or waits for an external function that was called in its precondition
abbrev pub Goes : World → Mem → Outcome → Type 0
Goes W m (Next c n) = Unit {0}
Goes W m (Asks f args k) = (x : Env) × (h : Heaplet) × Fits h m × W.pre f x args h
Goes W m (Ended v) = Unit {0}
Goes W m Stuck = ⊥

abbrev pub NoneStuck : World → List State → Type 0
NoneStuck W [] = Unit {0}
NoneStuck W (s ∷ ss) = Goes W s.mem (step W.program s.config s.mem) × NoneStuck W ss

-- v is returned to k in memory n, and no return to k comes before
abbrev pub FirstReturn : Kont → List State → Value → Mem → Type 0
FirstReturn k [] v n = ⊥
FirstReturn k (s ∷ ss) v n = ((s.config ≡ Returning v k) × (s.mem ≡ n)) ⊎ (((w : Value) → s.config ≡ Returning w k → ⊥) × FirstReturn k ss v n)

-- where it is a call that returns among the later states, it keeps its specification
abbrev pub CallMeets : World → Config → Mem → List State → Type 0
CallMeets W (Run s k act) m ss = Unit {0}
CallMeets W (Calling f args k) m ss = (v : Value) (n : Mem) → FirstReturn k ss v n → Meets W f args m v n
CallMeets W (Returning v k) m ss = Unit {0}

abbrev pub CallsMeet : World → List State → Type 0
CallsMeet W [] = Unit {0}
CallsMeet W (s ∷ ss) = CallMeets W s.config s.mem ss × CallsMeet W ss
