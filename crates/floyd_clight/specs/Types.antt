-- The types of expressions.
use Rattle.floyd_ctypes.specs.declared.ctype.CType.{CType}
use Rattle.floyd_clight.specs.declared.syntax.Expr.{Expr, Const, Temp, Var, Deref', AddrOf', Unary', Binary', Cast', Field', SizeOf}

abbrev pub type_of : Expr → CType
type_of (Const v t) = t
type_of (Temp x t) = t
type_of (Var binding x t) = t
type_of (Deref' p e t) = t
type_of (AddrOf' p e t) = t
type_of (Unary' op p e t) = t
type_of (Binary' op p a q b t) = t
type_of (Cast' p e t) = t
type_of (Field' p e x t) = t
type_of (SizeOf of t) = t
