-- `&&` and `||` as one operator.
use Rattle.std.specs.Prelude.{ℕ, List}
use Rattle.floyd_cparse_trees.specs.declared.expressions.BinaryOp.{BinaryOp}
use Rattle.floyd_cparse_trees.specs.declared.expressions.BinaryOp.TheVariants as binary
use Rattle.floyd_clight.specs.declared.syntax.Expr.{Expr}
use Rattle.floyd_clight.specs.declared.syntax.Stmt.{Stmt}
use Rattle.floyd_elab_expressions.specs.declared.logic.Logical.{Logical}
use Rattle.floyd_elab_expressions.specs.declared.logic.Logical.TheVariants.{And, Or}
use Rattle.floyd_elab_expressions.specs.Expressions.{both, one_of}

abbrev pub op_of : Logical → BinaryOp
op_of And = binary.And
op_of Or = binary.Or

-- the second is only tested where the first does not decide
abbrev pub short_circuit : Logical → Expr → List Stmt → Expr → List ℕ → Stmt
short_circuit And first before second x = both first before second x
short_circuit Or first before second x = one_of first before second x
