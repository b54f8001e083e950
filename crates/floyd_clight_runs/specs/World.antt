-- A program, with what its functions ask and give.
use Rattle.std.specs.Prelude.{Bool, false, List, Option, Some, None}
use Rattle.floyd_int.specs.declared.kinds.Value.{Value}
use Rattle.floyd_ctypes.specs.Has.{has}
use Rattle.floyd_clight_machine.specs.Looking.{Ident}
use Rattle.floyd_clight_machine.specs.Machine.{Program, FunctionBlock, signature, function_named}
use Rattle.floyd_clight_heap.specs.Heaplet.{Heaplet}

-- Specifications of functions: for WITH values, what must hold of the arguments and of a heaplet when a function is
-- called, and of the result and of a heaplet when it returns. A function that may be used in several ways has the way
-- among its WITH values.
pub record Specs : Type 1 where
  pub With : Type 0
  pub pre : Ident → With → List Value → Heaplet → Type 0
  pub post : Ident → With → Value → Heaplet → Type 0

-- a program with the specifications that its functions have of their own
pub record World : Type 1 where
  pub program : Program
  pub own : Specs

abbrev pub is_result : Option FunctionBlock → Value → Bool
is_result None v = false
is_result (Some g) v = has (signature g.def).result v

-- the value is one of the function's result type
abbrev pub has_result : Program → Ident → Value → Bool
has_result P f v = is_result (function_named P f) v
