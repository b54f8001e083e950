-- Laws of evaluation and of the step.
use Rattle.std.specs.Prelude.{◌≡◌, ℕ, true, List, Option, Some, None}
use Rattle.std.specs.List.{AllByRecursion}
use Rattle.floyd_int.specs.declared.kinds.Value.{Value}
use Rattle.floyd_memval.specs.declared.bytes.MemByte.{MemByte}
use Rattle.floyd_clight_memory.specs.Memory.{Mem}
use Rattle.floyd_ctypes.specs.Structs.{Structs}
use Rattle.floyd_clight.specs.declared.syntax.Binding.{Binding}
use Rattle.floyd_clight.specs.declared.syntax.Expr.{Expr}
use Rattle.floyd_clight_machine.specs.Evaluation.{Ident, Spot, Look, Temps, eval_by, place_by}
use Rattle.floyd_clight_machine.specs.Footprint.{value_loads, place_loads, value_asks, place_asks}
use Rattle.floyd_clight_machine.specs.Machine.{Answer, Program, Config, Returning, Outcome, Next, Asks, Ended, Stuck, LocalBlock, Kont, step}
use Rattle.floyd_clight_machine.specs.Touched.{reads, writes}
use Rattle.floyd_clight_machine.specs.Exits.{Level, Exit, exit_of, Suits, under, over, resume}
use Rattle.floyd_clight_machine.specs.Bounds.{Bounds, Bound, KeepsBounds, Keeps}

-- two ways to look find the same blocks under names
abbrev pub SameNames : Look → Look → Type 0
SameNames j k = (b : Binding) (x : Ident) → j.block_of b x ≡ k.block_of b x

-- and the same bytes at these places
abbrev pub SameBytes : Look → Look → List Spot → Type 0
SameBytes j k ss = AllByRecursion (λ (s : Spot). j.byte_at s.block s.offset ≡ k.byte_at s.block s.offset) ss

-- and the same of these places valid
abbrev pub SameValidity : Look → Look → List Spot → Type 0
SameValidity j k ss = AllByRecursion (λ (s : Spot). j.is_valid s.block s.offset ≡ k.is_valid s.block s.offset) ss

-- An expression has the same value in every memory that agrees on the places that it loads and on the permissions of the
-- places whose validity it asks for.
abbrev pub ValuesDependOnFootprints : Type 0
ValuesDependOnFootprints =
    (structs : Structs) (j k : Look) (temps : Temps) (e : Expr) →
    SameNames j k → SameBytes j k (value_loads structs j temps e) → SameValidity j k (value_asks structs j temps e) →
    eval_by structs j temps e ≡ eval_by structs k temps e

-- And it stands for the same place.
abbrev pub PlacesDependOnFootprints : Type 0
PlacesDependOnFootprints =
    (structs : Structs) (j k : Look) (temps : Temps) (e : Expr) →
    SameNames j k → SameBytes j k (place_loads structs j temps e) → SameValidity j k (place_asks structs j temps e) →
    place_by structs j temps e ≡ place_by structs k temps e

-- k finds all that j finds
pub record Grows (j k : Look) : Type 0 where
  pub names : SameNames j k
  pub bytes : (block offset : ℕ) (byte : MemByte) → j.byte_at block offset ≡ Some byte → k.byte_at block offset ≡ Some byte
  pub valid : (block offset : ℕ) → j.is_valid block offset ≡ true → k.is_valid block offset ≡ true

-- a byte is there to be read
pub record IsThere (j : Look) (s : Spot) : Type 0 where
  pub byte : MemByte
  pub is : j.byte_at s.block s.offset ≡ Some byte

-- What has a value has the same one where more is found; the same places are loaded for it, and they are there.
pub record Lasts {A : Type 0} (j : Look) (before now : Option A) (loads loads_now : List Spot) : Type 0 where
  pub same : now ≡ before
  pub loaded : loads_now ≡ loads
  pub there : AllByRecursion (IsThere j) loads

abbrev pub ValuesLast : Type 0
ValuesLast =
    (structs : Structs) (j k : Look) (temps : Temps) (e : Expr) (v : Value) → Grows j k → eval_by structs j temps e ≡ Some v →
    Lasts j (eval_by structs j temps e) (eval_by structs k temps e) (value_loads structs j temps e) (value_loads structs k temps e)

abbrev pub PlacesLast : Type 0
PlacesLast =
    (structs : Structs) (j k : Look) (temps : Temps) (e : Expr) (s : Spot) → Grows j k → place_by structs j temps e ≡ Some s →
    Lasts j (place_by structs j temps e) (place_by structs k temps e) (place_loads structs j temps e) (place_loads structs k temps e)

-- with that answer, should it wait for one, it goes on at a configuration and a memory
abbrev pub GoesTo : Answer → Outcome → Config → Mem → Type 0
GoesTo a (Next c m) d n = (c ≡ d) × (m ≡ n)
GoesTo a (Asks f args k) d n = (Returning a.value k ≡ d) × (a.mem ≡ n)
GoesTo a (Ended v) d n = ⊥
GoesTo a Stuck d n = ⊥

-- The step is determined once the answer is given.
abbrev pub StepsAreDetermined : Type 0
StepsAreDetermined =
    (P : Program) (a : Answer) (c d e : Config) (m n q : Mem) → GoesTo a (step P c m) d n → GoesTo a (step P c m) e q → (d ≡ e) × (n ≡ q)

-- above the frames r, a step, its reads and its writes are the same
pub record StepsAlike (P : Program) (c : Config) (r : Kont) (m : Mem) : Type 0 where
  pub steps : step P (under r c) m ≡ over r (step P c m)
  pub reads : reads P (under r c) m ≡ reads P c m
  pub writes : writes P (under r c) m ≡ writes P c m

-- A configuration that stands at none of its ways out steps alike above any frames that suit it.
abbrev pub StepsAlikeAboveFrames : Type 0
StepsAlikeAboveFrames = (P : Program) (l : Level) (c : Config) (r : Kont) (m : Mem) → Suits l r → exit_of l c ≡ None → StepsAlike P c r m

-- At a way out it goes on from there.
abbrev pub ExitsGoOn : Type 0
ExitsGoOn = (l : Level) (c : Config) (r : Kont) (x : Exit) → exit_of l c ≡ Some x → under r c ≡ resume r x

-- Each step keeps the bounds on blocks.
abbrev pub StepsKeepBounds : Type 0
StepsKeepBounds = (P : Program) (c : Config) (m : Mem) → Bounds P c m → KeepsBounds P m (step P c m)

-- So does each answer of an external function that keeps what it should.
abbrev pub AnswersKeepBounds : Type 0
AnswersKeepBounds = (P : Program) (ls : List LocalBlock) (m n : Mem) → Keeps m n → Bound P ls m → Bound P ls n

-- Bounds above further frames are bounds of what stands above them.
abbrev pub BoundsAboveFrames : Type 0
BoundsAboveFrames = (P : Program) (r : Kont) (c : Config) (m : Mem) → Bounds P (under r c) m → Bounds P c m
