-- Runs of a program, in which external functions give the answers of a list.
use Rattle.std.specs.Prelude.{◌≡◌, ℕ, zero, suc, true, ◌⊎◌, List, [], ◌∷◌}
use Rattle.floyd_int.specs.declared.kinds.Value.{Value}
use Rattle.floyd_int.specs.declared.kinds.Value.TheVariants.{Vundef, Vint, Vlong, Vptr}
use Rattle.floyd_clight_memory.specs.Memory.{Mem, IsMemory}
use Rattle.floyd_clight_machine.specs.Looking.{Ident}
use Rattle.floyd_clight_machine.specs.Machine.{Answer, Config, Run, Calling, Returning, Kont, Outcome, Next, Asks, Ended, Stuck, step}
use Rattle.floyd_clight_machine.specs.Bounds.{Keeps}
use Rattle.floyd_clight_heap.specs.Heaplet.{Heaplet, Joins, Fits}
use Rattle.floyd_clight_runs.specs.World.{World, has_result}

-- A call in memory m that gives v in memory n keeps the function's specification: for all WITH values, and each heaplet h
-- that meets the precondition beside any F, some heaplet meets the postcondition beside the same F.
abbrev pub Meets : World → Ident → List Value → Mem → Value → Mem → Type 0
Meets W f args m v n =
    (x : W.own.With) (h F k : Heaplet) → Joins h F k → Fits k m → W.own.pre f x args h
    → (h' : Heaplet) × (k' : Heaplet) × W.own.post f x v h' × Joins h' F k' × Fits k' n

-- the external f may answer a call in m with v and the memory n
pub record IsLawful (W : World) (f : Ident) (args : List Value) (m : Mem) (v : Value) (n : Mem) : Type 0 where
  pub meets : Meets W f args m v n
  pub keeps : Keeps m n
  pub memory : IsMemory n
  pub typed : has_result W.program f v ≡ true

pub record State : Type 0 where
  pub config : Config
  pub mem : Mem

abbrev pub run_on : (List Answer → Config → Mem → List State) → List Answer → Outcome → List State
run_on go answers (Next c m) = go answers c m
run_on go [] (Asks f args k) = []
run_on go (a ∷ answers) (Asks f args k) = go answers (Returning a.value k) a.mem
run_on go answers (Ended v) = []
run_on go answers Stuck = []

-- the states of at most n steps
abbrev pub run : World → ℕ → List Answer → Config → Mem → List State
run W zero answers c m = record { config = c; mem = m } ∷ []
run W (suc n) answers c m = record { config = c; mem = m } ∷ run_on (run W n) answers (step W.program c m)

abbrev pub lawful_on : World → (List Answer → Config → Mem → Type 0) → List Answer → Mem → Outcome → Type 0
lawful_on W go answers m (Next c n) = go answers c n
lawful_on W go [] m (Asks f args k) = Unit {0}
lawful_on W go (a ∷ answers) m (Asks f args k) = IsLawful W f args m a.value a.mem × go answers (Returning a.value k) a.mem
lawful_on W go answers m (Ended v) = Unit {0}
lawful_on W go answers m Stuck = Unit {0}

-- each answer that is used within n steps is lawful at its call
abbrev pub AllLawful : World → ℕ → List Answer → Config → Mem → Type 0
AllLawful W zero answers c m = Unit {0}
AllLawful W (suc n) answers c m = lawful_on W (AllLawful W n) answers m (step W.program c m)

-- a run ends with a number
abbrev pub IsNumber : Value → Type 0
IsNumber Vundef = ⊥
IsNumber (Vint n) = Unit {0}
IsNumber (Vlong n) = ⊥
IsNumber (Vptr block offset) = ⊥

-- it goes on, has ended, or waits for an external function that was called in its precondition
abbrev pub Goes : World → Mem → Outcome → Type 0
Goes W m (Next c n) = Unit {0}
Goes W m (Asks f args k) = (x : W.own.With) × (h : Heaplet) × Fits h m × W.own.pre f x args h
Goes W m (Ended v) = IsNumber v
Goes W m Stuck = ⊥

abbrev pub NoneStuck : World → List State → Type 0
NoneStuck W [] = Unit {0}
NoneStuck W (s ∷ ss) = Goes W s.mem (step W.program s.config s.mem) × NoneStuck W ss

-- v is returned to k in memory n, and no return to k comes before
abbrev pub FirstReturn : Kont → List State → Value → Mem → Type 0
FirstReturn k [] v n = ⊥
FirstReturn k (s ∷ ss) v n = ((s.config ≡ Returning v k) × (s.mem ≡ n)) ⊎ (((w : Value) → s.config ≡ Returning w k → ⊥) × FirstReturn k ss v n)

-- where it is a call that returns among the later states, it keeps its specification
abbrev pub CallMeets : World → Config → Mem → List State → Type 0
CallMeets W (Run s k act) m ss = Unit {0}
CallMeets W (Calling f args k) m ss = (v : Value) (n : Mem) → FirstReturn k ss v n → Meets W f args m v n
CallMeets W (Returning v k) m ss = Unit {0}

abbrev pub CallsMeet : World → List State → Type 0
CallsMeet W [] = Unit {0}
CallsMeet W (s ∷ ss) = CallMeets W s.config s.mem ss × CallsMeet W ss
