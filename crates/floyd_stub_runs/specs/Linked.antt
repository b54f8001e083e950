-- The linked program: all functions of a project, each with its specification and its body or none.
use Rattle.std.specs.Prelude.{List, [], ◌∷◌, ◌++◌, Option, Some, None, option_map, find, bytes_eq, codes}
use Rattle.floyd_int.specs.declared.kinds.IntKind.TheVariants.{I32}
use Rattle.floyd_int.specs.declared.kinds.Value.{Value}
use Rattle.floyd_int.specs.declared.kinds.Value.TheVariants.{Vint}
use Rattle.floyd_ctypes.specs.declared.ctype.CType.{CType, Int}
use Rattle.floyd_ctypes.specs.Structs.{Structs}
use Rattle.floyd_clight.specs.declared.syntax.Expr.{Const}
use Rattle.floyd_clight.specs.declared.syntax.Stmt.{Stmt, Seq, Return}
use Rattle.floyd_stub_machine.specs.Evaluation.{Ident}
use Rattle.floyd_stub_machine.specs.Machine.{Def, Own, Program}
use Rattle.floyd_stub_assert.specs.declared.funspec.Funspec.{Funspec}
use Rattle.floyd_stub_assert.specs.Heaplet.{Heaplet}
use Rattle.floyd_stub_assert.specs.Data.{Env}
use Rattle.floyd_stub_assert.specs.Spec.{Pre, Post}
use Rattle.floyd_stub_runs.specs.World.{World}

pub record Function : Type 0 where
  pub name : Ident
  pub spec : Funspec
  pub def : Def

pub record Linked : Type 0 where
  pub structs : Structs
  pub functions : List Function

abbrev pub function : Linked → Ident → Option Function
function l f = find (λ (g : Function). bytes_eq f g.name) l.functions

abbrev pub program : Linked → Program
program l = record { structs = l.structs; functions = λ f. option_map (λ (g : Function). g.def) (function l f) }

abbrev pub PreOf : Option Function → Env → List Value → Heaplet → Type 0
PreOf None x args h = ⊥
PreOf (Some g) x args h = Pre g.spec x args h

abbrev pub PostOf : Option Function → Env → Value → Heaplet → Type 0
PostOf None x v h = ⊥
PostOf (Some g) x v h = Post g.spec x v h

abbrev pub world : Linked → World
world l = record { program = program l; pre = λ f. PreOf (function l f); post = λ f. PostOf (function l f) }

abbrev pub main : Ident
main = codes "main"

abbrev pub int : CType
int = Int I32

-- a main without parameters has `return 0;` appended to its statements
abbrev pub main_body : List Stmt → Stmt
main_body statements = Seq (statements ++ Return (Some (Const (Vint 0) int)) ∷ [])

-- the program that has `int main(void)` with these statements alone
abbrev pub linked : List Stmt → Funspec → Linked
linked statements spec = record {
  structs = [];
  functions =
      record { name = main; spec = spec; def = Own (record { result = int; params = []; body = main_body statements }) } ∷ [];
}
