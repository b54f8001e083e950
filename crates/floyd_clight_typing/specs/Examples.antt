-- Worked examples: in a function `int f(char c, int *p)` of a file with `int g;`.
use Rattle.std.specs.Prelude.{◌≡◌, ℕ, List, [], ◌∷◌, codes, Some, None}
use Rattle.floyd_int.specs.declared.kinds.IntKind.TheVariants.{I8, I32}
use Rattle.floyd_int.specs.declared.kinds.IntOp.TheVariants.{Add, Eq}
use Rattle.floyd_int.specs.declared.kinds.Value.TheVariants.{Vint}
use Rattle.floyd_ctypes.specs.declared.ctype.CType.{CType, Int, Pointer', more_of-CType, end_of-CType}
use Rattle.floyd_clight.specs.declared.syntax.Binding.TheVariants.{File}
use Rattle.floyd_clight.specs.declared.syntax.Expr.{Expr, Const, Temp, Var, Binary', Cast', Deref', more_of-Expr, end_of-Expr}
use Rattle.floyd_clight.specs.declared.syntax.Stmt.{Return, Assign}
use Rattle.floyd_clight.specs.declared.initial.Initial as i
use Rattle.floyd_clight_typing.specs.Contents.{AreOf}
use Rattle.floyd_clight_typing.specs.Expressions.{IsTyped, Names}
use Rattle.floyd_clight_typing.specs.Statements.{AreExpressionsTyped}

abbrev pub int : CType
int = Int I32

abbrev pub pointer : CType
pointer = Pointer' tt (more_of-CType int end_of-CType)

abbrev pub here : Names
here = record {
  temporaries = record { name = codes "c"; ctype = Int I8 } ∷ record { name = codes "p"; ctype = pointer } ∷ [];
  blocks = [];
  file = (codes "g", int) ∷ [];
}

abbrev pub c : Expr
c = Temp (codes "c") (Int I8)

abbrev pub p : Expr
p = Temp (codes "p") pointer

abbrev pub g : Expr
g = Var File (codes "g") int

abbrev pub one : Expr
one = Const (Vint 1) int

abbrev pub zero : Expr
zero = Const (Vint 0) int

abbrev pub sum_of : Expr → Expr → Expr
sum_of a b = Binary' Add tt (more_of-Expr a end_of-Expr) tt (more_of-Expr b end_of-Expr) int

abbrev pub equal : Expr → Expr → Expr
equal a b = Binary' Eq tt (more_of-Expr a end_of-Expr) tt (more_of-Expr b end_of-Expr) int

abbrev pub cast : Expr → CType → Expr
cast e t = Cast' tt (more_of-Expr e end_of-Expr) t

abbrev pub behind_p : Expr
behind_p = Deref' tt (more_of-Expr p end_of-Expr) int

-- `c + 1` is of int with c cast to it, and has no type without the cast; p is compared with 0 once that is cast; `g = *p`
-- and `return c` with a cast have types; a name that is nowhere has none; the number 300 is no char.
pub record Worked : Type 0 where
  pub sum : IsTyped [] here (sum_of (cast c int) one)
  pub no_cast : IsTyped [] here (sum_of c one) → ⊥
  pub test : IsTyped [] here (equal p (cast zero pointer))
  pub no_test : IsTyped [] here (equal p zero) → ⊥
  pub assigns : AreExpressionsTyped [] here int (Assign g (behind_p))
  pub returns : AreExpressionsTyped [] here int (Return (Some (cast c int)))
  pub no_return : AreExpressionsTyped [] here int (Return (Some c)) → ⊥
  pub unknown : IsTyped [] here (Var File (codes "h") int) → ⊥
  pub number : AreOf [] [] int (i.Int I32 300)
  pub no_number : AreOf [] [] (Int I8) (i.Int I8 300) → ⊥
