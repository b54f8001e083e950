-- Expressions and a program for the examples.
use Rattle.std.proofs.Common.{ℕ, List, [], ◌∷◌, Option, Some}
use Rattle.std.specs.Prelude.{codes}
use Rattle.floyd_int.specs.declared.kinds.IntKind.TheVariants.{I8, I32, U32}
use Rattle.floyd_int.specs.declared.kinds.IntOp.{IntOp}
use Rattle.floyd_int.specs.declared.kinds.Value.{Value}
use Rattle.floyd_int.specs.declared.kinds.Value.TheVariants.{Vint, Vptr}
use Rattle.floyd_memval.specs.declared.bytes.MemByte.{MemByte}
use Rattle.floyd_memval.specs.declared.bytes.MemByte.TheVariants.{Undef, Byte}
use Rattle.floyd_clight_memory.specs.Memory.{Mem, Slot, Perm, Global, Local as LocalKind, Function as FunctionKind, Freeable, Writable, Readable, Nonempty}
use Rattle.floyd_ctypes.specs.declared.ctype.CType.{CType, Void, Int, Pointer', Array', end_of-CType, more_of-CType}
use Rattle.floyd_ctypes.specs.Structs.{Structs}
use Rattle.floyd_clight.specs.declared.syntax.Binding.TheVariants.{Block as InBlock, File}
use Rattle.floyd_clight.specs.declared.syntax.UnaryOp.{UnaryOp}
use Rattle.floyd_clight.specs.declared.syntax.Expr.{Expr, Const, Temp, Var, Deref', AddrOf', Unary', Binary', Cast', Field', end_of-Expr, more_of-Expr}
use Rattle.floyd_clight_machine.specs.Evaluation.{Ident, unset, with_temp}
use Rattle.floyd_clight_machine.specs.Machine.{Program, Ext, Act, eval}

-- How expressions are written here.

abbrev pub int : CType
int = Int I32

abbrev pub char : CType
char = Int I8

abbrev pub pointer : CType → CType
pointer t = Pointer' tt (more_of-CType t end_of-CType)

abbrev pub array : CType → ℕ → CType
array t n = Array' tt (more_of-CType t end_of-CType) n

abbrev pub int_of : ℕ → Expr
int_of n = Const (Vint n) int

abbrev pub uint_of : ℕ → Expr
uint_of n = Const (Vint n) (Int U32)

abbrev pub binary : IntOp → Expr → Expr → CType → Expr
binary op a b t = Binary' op tt (more_of-Expr a end_of-Expr) tt (more_of-Expr b end_of-Expr) t

abbrev pub unary : UnaryOp → Expr → CType → Expr
unary op e t = Unary' op tt (more_of-Expr e end_of-Expr) t

abbrev pub cast : Expr → CType → Expr
cast e t = Cast' tt (more_of-Expr e end_of-Expr) t

abbrev pub deref : Expr → CType → Expr
deref e t = Deref' tt (more_of-Expr e end_of-Expr) t

abbrev pub address_of : Expr → CType → Expr
address_of e t = AddrOf' tt (more_of-Expr e end_of-Expr) t

abbrev pub field : Expr → Ident → CType → Expr
field e x t = Field' tt (more_of-Expr e end_of-Expr) x t

-- A program with `struct s { char a; int b; }`, a variable `int g`, a read-only one `int k`, and a function `void f(void)`,
-- and a memory with their blocks and one of a local variable `int x[2]` of which the first element is 7.

abbrev pub structs : Structs
structs = (codes "s", Some (record { name = codes "a"; ty = char } ∷ record { name = codes "b"; ty = int } ∷ [])) ∷ []

abbrev pub program : Program
program = record {
  structs = structs;
  variables = record { name = codes "g"; block = 0; size = 4; perm = Writable } ∷ record { name = codes "k"; block = 1; size = 4; perm = Readable } ∷ [];
  functions = record { name = codes "f"; block = 2; def = Ext (record { params = []; result = Void }) } ∷ [];
}

abbrev pub slot_with : Perm → MemByte → Slot
slot_with p b = record { byte = b; perm = Some p }

abbrev pub block_with : Perm → ℕ → List Slot
block_with p n = slot_with p (Byte n) ∷ slot_with p (Byte 0) ∷ slot_with p (Byte 0) ∷ slot_with p (Byte 0) ∷ []

abbrev pub undefined : Slot
undefined = slot_with Freeable Undef

abbrev pub memory : Mem
memory =
    record { kind = Global; slots = block_with Writable 5 }
    ∷ record { kind = Global; slots = block_with Readable 200 }
    ∷ record { kind = FunctionKind; slots = slot_with Nonempty Undef ∷ [] }
    ∷ record { kind = LocalKind; slots = slot_with Freeable (Byte 7) ∷ slot_with Freeable (Byte 0) ∷ slot_with Freeable (Byte 0) ∷ slot_with Freeable (Byte 0) ∷ undefined ∷ undefined ∷ undefined ∷ undefined ∷ [] }
    ∷ []

abbrev pub act : Act
act = record {
  result = int;
  temps = with_temp (codes "p") (Vptr 3 0) (with_temp (codes "q") (Vptr 3 8) (with_temp (codes "c") (Vint 4294967295) unset));
  blocks = record { name = codes "x"; block = 3; size = 8 } ∷ [];
}

-- its value in that memory
abbrev pub gives : Expr → Option Value
gives e = eval program memory act e

abbrev pub p : Expr
p = Temp (codes "p") (pointer int)

abbrev pub q : Expr
q = Temp (codes "q") (pointer int)

abbrev pub c : Expr
c = Temp (codes "c") char

abbrev pub g : Expr
g = Var File (codes "g") int

abbrev pub x : Expr
x = Var InBlock (codes "x") (array int 2)

abbrev pub null : Expr
null = cast (int_of 0) (pointer int)
