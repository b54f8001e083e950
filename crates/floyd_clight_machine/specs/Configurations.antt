-- What the machine stands at: a configuration beside a memory.
use Rattle.std.specs.Prelude.{ℕ, List, Option}
use Rattle.floyd_int.specs.declared.kinds.Value.{Value}
use Rattle.floyd_ctypes.specs.declared.ctype.CType.{CType}
use Rattle.floyd_clight_memory.specs.Memory.{Mem}
use Rattle.floyd_clight.specs.declared.syntax.Stmt.{Stmt}
use Rattle.floyd_clight_machine.specs.Looking.{Ident}
use Rattle.floyd_clight_machine.specs.Evaluation.{Temps}

-- a local variable that has a block, which has the size of its type
pub record LocalBlock : Type 0 where
  pub name : Ident
  pub block : ℕ
  pub size : ℕ

-- one activation of a function: its result type, its temporaries, and the blocks of its local variables
pub record Act : Type 0 where
  pub result : CType
  pub temps : Temps
  pub blocks : List LocalBlock

-- what is to be done afterwards: a statement, or the rest of a loop whose first or second part runs, or what follows a
-- switch, or to go on in the caller, with the result in the named temporary, if any
pub data Frame : Type 0 where
  Kseq : (s : Stmt) → Frame
  Kloop1 : (first : Stmt) → (second : Stmt) → Frame
  Kloop2 : (first : Stmt) → (second : Stmt) → Frame
  Kswitch : Frame
  Kcall : (to : Option Ident) → (act : Act) → Frame

-- the innermost frame comes first
abbrev pub Kont : Type 0
Kont = List Frame

-- a function runs, or is called, or returns
pub data Config : Type 0 where
  Run : (s : Stmt) → (k : Kont) → (act : Act) → Config
  Calling : (f : Ident) → (args : List Value) → (k : Kont) → Config
  Returning : (v : Value) → (k : Kont) → Config

-- a step goes on, or waits for the answer of an external function, or the last activation has ended, or no case applies
pub data Outcome : Type 0 where
  Next : (c : Config) → (m : Mem) → Outcome
  Asks : (f : Ident) → (args : List Value) → (k : Kont) → Outcome
  Ended : (v : Value) → Outcome
  Stuck : Outcome

-- an answer of an external function: a value, and what the memory is then
pub record Answer : Type 0 where
  pub value : Value
  pub mem : Mem
