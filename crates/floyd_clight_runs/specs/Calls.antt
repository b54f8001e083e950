-- When calls keep their specifications, and what is proved of a function's body.
use Rattle.std.specs.Prelude.{◌≡◌, ℕ, ◌<◌, true, List, [], ◌∷◌, Some, IsSome, replicate}
use Rattle.std.specs.List.{AllByRecursion}
use Rattle.floyd_int.specs.declared.kinds.Value.{Value}
use Rattle.floyd_int.specs.declared.kinds.Value.TheVariants.{Vundef}
use Rattle.floyd_memval.specs.declared.bytes.MemByte.TheVariants.{Undef}
use Rattle.floyd_ctypes.specs.Structs.{Structs}
use Rattle.floyd_ctypes.specs.Layout.{size}
use Rattle.floyd_ctypes.specs.Has.{has}
use Rattle.floyd_clight.specs.declared.unit.Local.{Local}
use Rattle.floyd_clight.specs.declared.syntax.Stmt.{Stmt}
use Rattle.floyd_clight.specs.Flat.{flat}
use Rattle.floyd_clight_machine.specs.Looking.{Ident}
use Rattle.floyd_clight_machine.specs.Evaluation.{Temps, unset}
use Rattle.floyd_clight_machine.specs.Machine.{Act, LocalBlock, Run, Calling, Program, Fun, Own, FunctionBlock, function_named, bind_params}
use Rattle.floyd_clight_machine.specs.Exits.{Normal, Broke, Continued, Returned, Part, Whole}
use Rattle.floyd_clight_machine.specs.Bounds.{IsApart}
use Rattle.floyd_clight_heap.specs.Heaplet.{Heaplet, empty, Joins, OwnsFrom, spread}
use Rattle.floyd_clight_runs.specs.World.{Specs, World, has_result}
use Rattle.floyd_clight_runs.specs.Safe.{Exits, Safe}

-- the one way out of a call
abbrev pub CallExits : Program → (V : Specs) → Ident → V.With → Exits
CallExits P V f x (Normal act) h = ⊥
CallExits P V f x (Broke act) h = ⊥
CallExits P V f x (Continued act) h = ⊥
CallExits P V f x (Returned v) h = (has_result P f v ≡ true) × V.post f x v h

-- Calls keep the specifications V for n steps. Those of a module may be others than the functions' own.
abbrev pub KeepsFor : World → Specs → ℕ → Type 0
KeepsFor W V n = (f : Ident) (x : V.With) (args : List Value) (h : Heaplet) → V.pre f x args h → Safe W Whole n (Calling f args []) h (CallExits W.program V f x)

abbrev pub KeepsBelow : World → Specs → ℕ → Type 0
KeepsBelow W V n = (j : ℕ) → j < n → KeepsFor W V j

-- what V says of a call follows from what is said by U: of a part of the heaplet, and the rest is kept
pub record Serves (U V : Specs) (f : Ident) (x : V.With) (args : List Value) (h : Heaplet) : Type 0 where
  pub with : U.With
  pub here : Heaplet
  pub rest : Heaplet
  pub joins : Joins here rest h
  pub pre : U.pre f with args here
  pub post : (v : Value) (g k : Heaplet) → U.post f with v g → Joins g rest k → V.post f x v k

-- the specifications V follow from U
abbrev pub Gives : Specs → Specs → Type 0
Gives U V = (f : Ident) (x : V.With) (args : List Value) (h : Heaplet) → V.pre f x args h → Serves U V f x args h

-- the exits with another meaning of the normal one
abbrev pub with_normal : (Act → Heaplet → Type 0) → Exits → Exits
with_normal A E (Normal act) h = A act h
with_normal A E (Broke act) h = E (Broke act) h
with_normal A E (Continued act) h = E (Continued act) h
with_normal A E (Returned v) h = E (Returned v) h

-- the statements, one after the other, are safe for n steps each
abbrev pub SafeAll : World → ℕ → List Stmt → Exits → Act → Heaplet → Type 0
SafeAll W n [] E act h = E (Normal act) h
SafeAll W n (s ∷ ss) E act h = Safe W Part n (Run s [] act) h (with_normal (SafeAll W n ss E) E)

-- Local variables.

-- blocks for these variables, in order, of the sizes of their types
abbrev pub AreBlocksOf : Structs → List Local → List LocalBlock → Type 0
AreBlocksOf structs [] [] = Unit {0}
AreBlocksOf structs [] (b ∷ bs) = ⊥
AreBlocksOf structs (l ∷ ls) [] = ⊥
AreBlocksOf structs (l ∷ ls) (b ∷ bs) = (b.name ≡ l.name) × (size structs l.ctype ≡ Some b.size) × AreBlocksOf structs ls bs

abbrev pub AreDistinct : List LocalBlock → Type 0
AreDistinct [] = Unit {0}
AreDistinct (b ∷ bs) = IsApart b.block bs × AreDistinct bs

-- all bytes of a new block, undefined, with the whole share
abbrev pub fresh_cells : LocalBlock → Heaplet
fresh_cells b = spread 15 (replicate b.size Undef) b.block 0

-- h is what new blocks have, and nothing else
abbrev pub AreFresh : List LocalBlock → Heaplet → Type 0
AreFresh [] h = h ≡ empty
AreFresh (b ∷ bs) h = (rest : Heaplet) × Joins (fresh_cells b) rest h × AreFresh bs rest

-- h has all bytes of the blocks, and nothing can be added to them
abbrev pub AreOwned : List LocalBlock → Heaplet → Type 0
AreOwned [] h = Unit {0}
AreOwned (b ∷ bs) h = (here : Heaplet) × (rest : Heaplet) × Joins here rest h × OwnsFrom b.size here b.block 0 × AreOwned bs rest

-- v may be returned: the local blocks are given back, and what is left meets the exit
pub record ReturnOf (act : Act) (h : Heaplet) (E : Exits) (v : Value) : Type 0 where
  pub locals : Heaplet
  pub rest : Heaplet
  pub joins : Joins locals rest h
  pub owned : AreOwned act.blocks locals
  pub typed : has act.result v ≡ true
  pub after : E (Returned v) rest

-- What is proved of a body.

-- the exits of a body: at its end a return without a value may be done
abbrev pub body_exits : Exits → Exits
body_exits E (Normal act) h = ReturnOf act h E Vundef
body_exits E (Broke act) h = ⊥
body_exits E (Continued act) h = ⊥
body_exits E (Returned v) h = E (Returned v) h

abbrev pub start_act : Fun → Temps → List LocalBlock → Act
start_act fn temps blocks = record { result = fn.result; temps = temps; blocks = blocks }

-- from its start, in all blocks that its local variables may have, a body is safe
pub record StartsWith (W : World) (fn : Fun) (args : List Value) (h : Heaplet) (E : Exits) (n : ℕ) : Type 0 where
  pub temps : Temps
  pub binds : bind_params fn.params args unset ≡ Some temps
  pub sized : AllByRecursion (λ (l : Local). IsSome (size W.program.structs l.ctype)) fn.locals
  pub runs : (blocks : List LocalBlock) (locals whole : Heaplet) → AreBlocksOf W.program.structs fn.locals blocks → AreDistinct blocks → AreFresh blocks locals → Joins locals h whole
      → SafeAll W n (flat fn.body) (body_exits E) (start_act fn temps blocks) whole

-- A body meets the function's own specification for n steps, where the calls in it keep for fewer steps those that the
-- module has.
abbrev pub BodyHolds : World → Specs → Ident → Fun → ℕ → Type 0
BodyHolds W V f fn n =
    KeepsBelow W V n → (x : W.own.With) (args : List Value) (h : Heaplet) → W.own.pre f x args h → StartsWith W fn args h (CallExits W.program W.own f x) n

-- with the specifications of its module, which follow from the functions' own
pub record IsProved (W : World) (f : Ident) (fn : Fun) : Type 1 where
  pub calls : Specs
  pub given : Gives W.own calls
  pub body : (n : ℕ) → BodyHolds W calls f fn n

-- What is proved of a program: only functions that it has have specifications, and each body is proved.
pub record AllHold (W : World) : Type 1 where
  pub known : (f : Ident) (x : W.own.With) (args : List Value) (h : Heaplet) → W.own.pre f x args h → (g : FunctionBlock) × (function_named W.program f ≡ Some g)
  pub bodies : (f : Ident) (g : FunctionBlock) (fn : Fun) → function_named W.program f ≡ Some g → g.def ≡ Own fn → IsProved W f fn
