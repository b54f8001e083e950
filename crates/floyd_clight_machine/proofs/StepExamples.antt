-- Small steps and runs with what they give, by computation.
use Rattle.std.proofs.Common.{◌≡◌, ℕ, zero, suc, [], ◌∷◌, Option, Some, None, refl}
use Rattle.std.specs.Prelude.{option_map, option_and_then, codes}
use Rattle.floyd_int.specs.declared.kinds.IntOp.TheVariants.{Add, Lt}
use Rattle.floyd_int.specs.declared.kinds.Value.{Value}
use Rattle.floyd_int.specs.declared.kinds.Value.TheVariants.{Vint, Vlong, Vptr}
use Rattle.floyd_int.specs.Kind.{repr_of, value_of}
use Rattle.floyd_int.specs.Operation.{operation_of}
use Rattle.floyd_memval.specs.declared.bytes.Chunk.TheVariants.{I32 as IntChunk}
use Rattle.floyd_memval.specs.declared.bytes.MemByte.TheVariants.{Undef}
use Rattle.floyd_memval.specs.Decoding.{decoding}
use Rattle.floyd_memval.specs.Encoding.{encoding}
use Rattle.floyd_clight_memory.specs.Memory.{Mem, Function as FunctionKind, Nonempty, next}
use Rattle.floyd_ctypes.specs.declared.ctype.CType.{CType, Void, Function', end_of-CType, more_of-CType}
use Rattle.floyd_clight.specs.declared.syntax.Binding.TheVariants.{Block as InBlock, File}
use Rattle.floyd_clight.specs.declared.syntax.Expr.{Expr, Temp, Var}
use Rattle.floyd_clight.specs.declared.syntax.Stmt.{Stmt, Skip, Set, Assign, Call, Seq', If', Break, Continue, Return, Switch', end_of-Stmt, more_of-Stmt, end_of-Case, more_of-Case}
use Rattle.floyd_clight_machine.specs.Evaluation.{Ident, unset, with_temp}
use Rattle.floyd_clight_machine.specs.Looking.{load}
use Rattle.floyd_clight_machine.specs.Machine.{Program, Fun, Own, Run, Calling, Returning, Kloop1, Kswitch, Kcall, Outcome, Next, Asks, Ended, Stuck, look, loop, step}
use Rattle.floyd_clight_machine.specs.Touched.{reads, writes}
use Rattle.floyd_clight_machine.proofs.Samples.{int, char, pointer, array, int_of, binary, cast, deref, address_of, program, memory, act, p, g, x, slot_with}

-- How statements are written here.

abbrev both : Stmt → Stmt → Stmt
both a b = Seq' (tt ∷ tt ∷ []) (more_of-Stmt a (more_of-Stmt b end_of-Stmt))

abbrev three : Stmt → Stmt → Stmt → Stmt
three a b c = Seq' (tt ∷ tt ∷ tt ∷ []) (more_of-Stmt a (more_of-Stmt b (more_of-Stmt c end_of-Stmt)))

abbrev branch : Expr → Stmt → Stmt → Stmt
branch e a b = If' e tt (more_of-Stmt a end_of-Stmt) tt (more_of-Stmt b end_of-Stmt)

abbrev t : Ident
t = codes "t"

abbrev set : ℕ → Stmt
set n = Set t (int_of n)

-- switch (e) { case 1: t = 10; case 2: t = 20; break; default: t = 30; }
abbrev switch : Expr → Stmt
switch e =
    Switch' e (tt ∷ tt ∷ tt ∷ [])
    (more_of-Case (Some 1) tt (more_of-Stmt (set 10) end_of-Stmt)
    (more_of-Case (Some 2) tt (more_of-Stmt (both (set 20) Break) end_of-Stmt)
    (more_of-Case None tt (more_of-Stmt (set 30) end_of-Stmt) end_of-Case)))

abbrev from_here : Stmt → Outcome
from_here s = step program (Run s [] act) memory

-- after that many further steps
abbrev after : Program → ℕ → Outcome → Outcome
after P zero o = o
after P (suc n) (Next c m) = after P n (step P c m)
after P (suc n) (Asks f args k) = Asks f args k
after P (suc n) (Ended v) = Ended v
after P (suc n) Stuck = Stuck

-- what the temporary t holds where a statement is over
abbrev held : Outcome → Option Value
held (Next (Run Skip [] a) m) = Some (a.temps t)
held o = None

abbrev mem_of : Outcome → Option Mem
mem_of (Next c m) = Some m
mem_of o = None

-- the int at a place of block 3
abbrev int_at : ℕ → Option Mem → Option Value
int_at offset m = option_and_then (λ n. load (look program [] n) IntChunk (record { block = 3; offset = offset })) m

-- Statements.

example_set : held (from_here (set 4)) ≡ Some (Vint 4)
example_set = refl

example_assign : int_at 0 (mem_of (from_here (Assign (deref x int) (int_of 9)))) ≡ Some (Vint 9)
unfolding encoding decoding
example_assign = refl

-- what is assigned has the place's type
example_ill_assign : from_here (Assign (deref (cast p (pointer char)) char) (int_of 300)) ≡ Stuck
example_ill_assign = refl

example_assign_reads_and_writes : writes program (Run (Assign (deref x int) g) [] act) memory
    ≡ record { block = 3; offset = 0 } ∷ record { block = 3; offset = 1 } ∷ record { block = 3; offset = 2 } ∷ record { block = 3; offset = 3 } ∷ []
example_assign_reads_and_writes = refl

example_assign_reads : reads program (Run (Assign (deref x int) g) [] act) memory
    ≡ record { block = 0; offset = 0 } ∷ record { block = 0; offset = 1 } ∷ record { block = 0; offset = 2 } ∷ record { block = 0; offset = 3 } ∷ []
example_assign_reads = refl

example_branch : held (after program 1 (from_here (branch (binary Lt (int_of 1) (int_of 2) int) (set 1) (set 2)))) ≡ Some (Vint 1)
unfolding operation_of value_of repr_of
example_branch = refl

-- loop { t = 1; continue; } { t = 2; break; }
example_loop : held (after program 12 (from_here (loop (both (set 1) Continue) (both (set 2) Break)))) ≡ Some (Vint 2)
example_loop = refl

example_break_outside : from_here Break ≡ Stuck
example_break_outside = refl

-- a case goes on into the next one, and break leaves the switch
example_switch_first : held (after program 11 (from_here (switch (int_of 1)))) ≡ Some (Vint 20)
unfolding operation_of value_of repr_of
example_switch_first = refl

example_switch_default : held (after program 5 (from_here (switch (int_of 5)))) ≡ Some (Vint 30)
example_switch_default = refl

example_switch_none : from_here (Switch' (int_of 5) (tt ∷ []) (more_of-Case (Some 1) tt (more_of-Stmt (set 10) end_of-Stmt) end_of-Case)) ≡ Next (Run Skip (Kswitch ∷ []) act) memory
example_switch_none = refl

-- continue at a switch is continue at what is below
example_switch_continue : step program (Run Continue (Kswitch ∷ Kloop1 Skip Break ∷ []) act) memory ≡ Next (Run Continue (Kloop1 Skip Break ∷ []) act) memory
example_switch_continue = refl

-- Calls and returns.

abbrev no_type : CType
no_type = Function' [] end_of-CType tt (more_of-CType Void end_of-CType)

abbrev gives_int : CType
gives_int = Function' [] end_of-CType tt (more_of-CType int end_of-CType)

abbrev of_int : CType
of_int = Function' (tt ∷ []) (more_of-CType int end_of-CType) tt (more_of-CType int end_of-CType)

example_call : from_here (Call None (Var File (codes "f") no_type) []) ≡ Next (Calling (codes "f") [] (Kcall None act ∷ [])) memory
example_call = refl

-- of another type, with another number of arguments, or where no function is
example_call_of_another_type : from_here (Call None (Var File (codes "f") gives_int) []) ≡ Stuck
example_call_of_another_type = refl

example_too_many : from_here (Call None (Var File (codes "f") no_type) (int_of 1 ∷ [])) ≡ Stuck
example_too_many = refl

example_no_function : from_here (Call None (deref (cast (address_of g (pointer int)) (pointer no_type)) no_type) []) ≡ Stuck
example_no_function = refl

-- or at another place than a function's start
example_call_inside : step program (Run (Call None (Temp (codes "w") (pointer no_type)) []) [] (record { result = int; temps = with_temp (codes "w") (Vptr 2 1) unset; blocks = [] })) memory ≡ Stuck
example_call_inside = refl

example_external : step program (Calling (codes "f") [] (Kcall None act ∷ [])) memory ≡ Asks (codes "f") [] (Kcall None act ∷ [])
example_external = refl

-- a return frees the local blocks whole, and its value has the result's type
example_return : int_at 0 (mem_of (from_here (Return (Some (int_of 3))))) ≡ None
unfolding decoding
example_return = refl

example_ill_return : from_here (Return (Some (cast (int_of 0) (pointer int)))) ≡ Stuck
example_ill_return = refl

-- the end of a function that gives an int is stuck
example_end_of_int : from_here Skip ≡ Stuck
example_end_of_int = refl

example_back : step program (Returning (Vint 8) (Kcall (Some t) act ∷ [])) memory ≡ Next (Run Skip [] (record { result = int; temps = with_temp t (Vint 8) act.temps; blocks = act.blocks })) memory
example_back = refl

example_ended : step program (Returning (Vlong 8) []) memory ≡ Ended (Vlong 8)
example_ended = refl

-- int inc(int n) { int a[1]; a[0] = n + 1; t = a[0]; return t; }    int main(void) { t = inc(1); return t; }
abbrev inc : Fun
inc = record {
  params = record { name = codes "n"; ctype = int } ∷ [];
  result = int;
  locals = record { name = codes "a"; ctype = array int 1 } ∷ [];
  body =
      three (Assign (deref (Var InBlock (codes "a") (array int 1)) int) (binary Add (Temp (codes "n") int) (int_of 1) int))
      (Set t (deref (Var InBlock (codes "a") (array int 1)) int)) (Return (Some (Temp t int)));
}

abbrev main : Fun
main = record { params = []; result = int; locals = []; body = both (Call (Some t) (Var File (codes "inc") of_int) (int_of 1 ∷ [])) (Return (Some (Temp t int))) }

abbrev whole : Program
whole = record {
  structs = [];
  variables = [];
  functions = record { name = codes "inc"; block = 0; def = Own inc } ∷ record { name = codes "main"; block = 1; def = Own main } ∷ [];
}

abbrev start : Mem
start =
    record { kind = FunctionKind; slots = slot_with Nonempty Undef ∷ [] }
    ∷ record { kind = FunctionKind; slots = slot_with Nonempty Undef ∷ [] }
    ∷ []

example_run : after whole 30 (Next (Calling (codes "main") [] []) start) ≡ Ended (Vint 2)
unfolding operation_of value_of repr_of encoding decoding
example_run = refl

-- the local block is a new one, and stays when it is freed
example_blocks : option_map next (mem_of (after whole 13 (Next (Calling (codes "main") [] []) start))) ≡ Some 3
unfolding operation_of value_of repr_of encoding decoding
example_blocks = refl
