-- What each statement needs of the temporaries and the heaplet before it, and what holds of them afterwards. Expressions
-- are evaluated over the heaplet.
use Rattle.std.specs.Prelude.{◌≡◌, ℕ, true, Bool, List, Option, Some}
use Rattle.floyd_int.specs.declared.kinds.Value.{Value}
use Rattle.floyd_memval.specs.declared.bytes.Chunk.{Chunk}
use Rattle.floyd_memval.specs.Chunks.{chunk_size, chunk_of}
use Rattle.floyd_memval.specs.Encoding.{encoding}
use Rattle.floyd_clight_memory.specs.Memory.{is_aligned}
use Rattle.floyd_ctypes.specs.Has.{has}
use Rattle.floyd_clight.specs.declared.syntax.Expr.{Expr}
use Rattle.floyd_clight.specs.Types.{type_of}
use Rattle.floyd_clight_machine.specs.Looking.{Ident, Spot}
use Rattle.floyd_clight_machine.specs.Evaluation.{eval_by, eval_all_by, place_by}
use Rattle.floyd_clight_machine.specs.Machine.{Program, Act, FunctionBlock, signature, called, all_have, set_in, is_true, switch_bits}
use Rattle.floyd_clight_machine.specs.Exits.{Normal, Broke, Continued, Returned}
use Rattle.floyd_clight_heap.specs.Heaplet.{Heaplet, Joins, OwnsFrom, laid}
use Rattle.floyd_clight_runs.specs.World.{Specs, World, has_result}
use Rattle.floyd_clight_runs.specs.Seen.{seen}
use Rattle.floyd_clight_runs.specs.Safe.{Exits}
use Rattle.floyd_clight_runs.specs.Calls.{ReturnOf}

-- over a heaplet in the place of memory
abbrev pub value_in : Program → Act → Heaplet → Expr → Option Value
value_in P act h e = eval_by P.structs (seen P act.blocks h) act.temps e

abbrev pub values_in : Program → Act → Heaplet → List Expr → Option (List Value)
values_in P act h es = eval_all_by P.structs (seen P act.blocks h) act.temps es

abbrev pub place_in : Program → Act → Heaplet → Expr → Option Spot
place_in P act h e = place_by P.structs (seen P act.blocks h) act.temps e

-- x is set to the value of e
pub record SetFrom (W : World) (act : Act) (h : Heaplet) (x : Ident) (e : Expr) (B : Act → Heaplet → Type 0) : Type 0 where
  pub value : Value
  pub evaluates : value_in W.program act h e ≡ Some value
  pub after : B (set_in (Some x) value act) h

-- the value of e is stored at the place of p, all of which is owned
pub record AssignTo (W : World) (act : Act) (h : Heaplet) (p e : Expr) (B : Act → Heaplet → Type 0) : Type 0 where
  pub spot : Spot
  pub value : Value
  pub chunk : Chunk
  pub locates : place_in W.program act h p ≡ Some spot
  pub evaluates : value_in W.program act h e ≡ Some value
  pub typed : has (type_of p) value ≡ true
  pub chunked : chunk_of (type_of p) ≡ Some chunk
  pub aligned : is_aligned chunk spot.offset ≡ true
  pub owned : OwnsFrom (chunk_size chunk) h spot.block spot.offset
  pub after : B act (laid (encoding chunk value) spot.block spot.offset h)

-- A function is called that has, by V, a specification whose precondition a part of the heaplet meets. The rest stays.
pub record CallOf (W : World) (V : Specs) (act : Act) (h : Heaplet) (to : Option Ident) (f : Expr) (es : List Expr) (B : Act → Heaplet → Type 0) : Type 0 where
  pub callee : Value
  pub function : FunctionBlock
  pub args : List Value
  pub with : V.With
  pub needs : Heaplet
  pub rest : Heaplet
  pub leads : value_in W.program act h f ≡ Some callee
  pub calls : called W.program (type_of f) callee ≡ Some function
  pub evaluates : values_in W.program act h es ≡ Some args
  pub typed : all_have (signature function.def).params args ≡ true
  pub joins : Joins needs rest h
  pub pre : V.pre function.name with args needs
  pub after : (v : Value) (g k : Heaplet) → has_result W.program function.name v ≡ true → V.post function.name with v g → Joins g rest k → B (set_in to v act) k

-- the value of e is returned
pub record ReturnFrom (W : World) (act : Act) (h : Heaplet) (e : Expr) (E : Exits) : Type 0 where
  pub value : Value
  pub evaluates : value_in W.program act h e ≡ Some value
  pub returns : ReturnOf act h E value

-- a test comes out true or false
pub record TestOf (W : World) (act : Act) (h : Heaplet) (e : Expr) (b : Bool) : Type 0 where
  pub value : Value
  pub evaluates : value_in W.program act h e ≡ Some value
  pub truth : is_true value ≡ Some b

-- the expression of a switch has these bits
pub record BitsOf (W : World) (act : Act) (h : Heaplet) (e : Expr) (n : ℕ) : Type 0 where
  pub value : Value
  pub evaluates : value_in W.program act h e ≡ Some value
  pub bits : switch_bits (type_of e) value ≡ Some n

-- Exits inside a loop with the invariant I, the condition C between its parts, and Q behind it.

-- the first part is left to C by its end and by continue, and the loop by break
abbrev pub first_exits : (Act → Heaplet → Type 0) → (Act → Heaplet → Type 0) → Exits → Exits
first_exits C Q E (Normal act) h = C act h
first_exits C Q E (Broke act) h = Q act h
first_exits C Q E (Continued act) h = C act h
first_exits C Q E (Returned v) h = E (Returned v) h

-- the second part is left to I by its end
abbrev pub second_exits : (Act → Heaplet → Type 0) → (Act → Heaplet → Type 0) → Exits → Exits
second_exits I Q E (Normal act) h = I act h
second_exits I Q E (Broke act) h = Q act h
second_exits I Q E (Continued act) h = ⊥
second_exits I Q E (Returned v) h = E (Returned v) h

-- a switch is left by the end of its bodies and by break
abbrev pub switch_exits : Exits → Exits
switch_exits E (Normal act) h = E (Normal act) h
switch_exits E (Broke act) h = E (Normal act) h
switch_exits E (Continued act) h = E (Continued act) h
switch_exits E (Returned v) h = E (Returned v) h
