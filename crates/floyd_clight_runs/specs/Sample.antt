-- A small program that waits for an answer: `int ask(void);` and `int main(void) { t = ask(); return t; }`.
use Rattle.std.specs.Prelude.{◌≡◌, true, [], ◌∷◌, Some, is_some, codes}
use Rattle.floyd_int.specs.declared.kinds.IntKind.TheVariants.{I32}
use Rattle.floyd_memval.specs.declared.bytes.MemByte.TheVariants.{Undef}
use Rattle.floyd_clight_memory.specs.Memory.{Mem, Block, Function, Nonempty}
use Rattle.floyd_ctypes.specs.declared.ctype.CType.{CType, Int, Function', end_of-CType, more_of-CType}
use Rattle.floyd_clight.specs.declared.syntax.Binding.TheVariants.{File}
use Rattle.floyd_clight.specs.declared.syntax.Expr.{Temp, Var}
use Rattle.floyd_clight.specs.declared.syntax.Stmt.{Stmt, Call, Return, Seq', end_of-Stmt, more_of-Stmt}
use Rattle.floyd_clight_machine.specs.Looking.{Ident}
use Rattle.floyd_clight_machine.specs.Machine.{Program, Fun, Own, Ext, FunctionBlock, function_named}
use Rattle.floyd_clight_heap.specs.Heaplet.{empty}
use Rattle.floyd_clight_runs.specs.World.{Specs, World}

abbrev pub main : Ident
main = codes "main"

abbrev pub ask : Ident
ask = codes "ask"

abbrev pub t : Ident
t = codes "t"

abbrev pub int : CType
int = Int I32

abbrev pub without_arguments : CType
without_arguments = Function' [] end_of-CType tt (more_of-CType int end_of-CType)

abbrev pub calls_ask : Stmt
calls_ask = Call (Some t) (Var File ask without_arguments) []

abbrev pub returns_t : Stmt
returns_t = Return (Some (Temp t int))

abbrev pub main_function : Fun
main_function = record { params = []; result = int; locals = []; body = Seq' (tt ∷ tt ∷ []) (more_of-Stmt calls_ask (more_of-Stmt returns_t end_of-Stmt)) }

abbrev pub main_block : FunctionBlock
main_block = record { name = main; block = 0; def = Own main_function }

abbrev pub ask_block : FunctionBlock
ask_block = record { name = ask; block = 1; def = Ext (record { params = []; result = int }) }

abbrev pub sample : Program
sample = record { structs = []; variables = []; functions = main_block ∷ ask_block ∷ [] }

-- both functions are called without arguments and memory, and give any int and no memory
abbrev pub plain : Specs
plain = record {
  With = Unit {0};
  pre = λ f x args h. (is_some (function_named sample f) ≡ true) × (args ≡ []) × (h ≡ empty);
  post = λ f x v h. h ≡ empty;
}

abbrev pub sample_world : World
sample_world = record { program = sample; own = plain }

abbrev pub function_there : Block
function_there = record { kind = Function; slots = record { byte = Undef; perm = Some Nonempty } ∷ [] }

-- a memory that has the blocks of the two functions
abbrev pub sample_memory : Mem
sample_memory = function_there ∷ function_there ∷ []
