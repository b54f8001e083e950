-- Clight as elaboration makes it: casts where types differ, tests, and sequences without skips or sequences in them.
use Rattle.std.specs.Prelude.{ℕ, ◌%◌, ◌^◌, Bool, true, false, List, [], ◌∷◌, ◌++◌, codes, Option, Some, None, if◌then◌else◌}
use Rattle.std.specs.Fmt.{decimal}
use Rattle.floyd_int.specs.declared.kinds.IntKind.{IntKind}
use Rattle.floyd_int.specs.declared.kinds.IntKind.TheVariants.{I8, U8, I16, U16, I32, U32, I64, U64}
use Rattle.floyd_int.specs.declared.kinds.IntOp.{IntOp}
use Rattle.floyd_int.specs.declared.kinds.IntOp.TheVariants.{Shl, Shr, Ne}
use Rattle.floyd_int.specs.declared.kinds.Value.{Value}
use Rattle.floyd_int.specs.declared.kinds.Value.TheVariants.{Vint, Vlong}
use Rattle.floyd_int.specs.Operation.{is_comparison}
use Rattle.floyd_ctypes.specs.declared.ctype.CType.{CType}
use Rattle.floyd_cparse_trees.specs.declared.expressions.CExpr as e
use Rattle.floyd_cparse_trees.specs.declared.expressions.BinaryOp.TheVariants as binary
use Rattle.floyd_cparse_trees.specs.declared.expressions.Prefix.{Prefix}
use Rattle.floyd_cparse_trees.specs.declared.expressions.Prefix.TheVariants as before
use Rattle.floyd_cparse_trees.specs.declared.expressions.PrefixOp.TheVariants.{Not}
use Rattle.floyd_ctyping.specs.declared.operand.Operand.{Operand}
use Rattle.floyd_ctyping.specs.declared.operand.Standing.TheVariants.{Zero}
use Rattle.floyd_elab_names.specs.Types.{int_type, same_type}
use Rattle.floyd_ctyping.specs.Operators.{value_type, promoted_type, number_of, common_type}
use Rattle.floyd_clight.specs.declared.syntax.Expr.{Expr, Const, Temp, Var, Deref', AddrOf', Unary', Binary', Cast', Field', end_of-Expr, more_of-Expr}
use Rattle.floyd_clight.specs.declared.syntax.Stmt.{Stmt, Skip, Seq, Set, Assign}
use Rattle.floyd_clight.specs.declared.syntax.UnaryOp.{UnaryOp}

-- An expression, translated: the statements that go before it; an expression without reads, which is a place where it
-- stands for an object that was not read yet; and how its operator sees it.
pub record Translated : Type 0 where
  pub before : List Stmt
  pub expr : Expr
  pub operand : Operand

-- Expressions.

abbrev pub deref_of : Expr → CType → Expr
deref_of e t = Deref' tt (more_of-Expr e end_of-Expr) t

abbrev pub address_of : Expr → CType → Expr
address_of e t = AddrOf' tt (more_of-Expr e end_of-Expr) t

abbrev pub unary_of : UnaryOp → Expr → CType → Expr
unary_of op e t = Unary' op tt (more_of-Expr e end_of-Expr) t

abbrev pub binary_of : IntOp → Expr → Expr → CType → Expr
binary_of op a b t = Binary' op tt (more_of-Expr a end_of-Expr) tt (more_of-Expr b end_of-Expr) t

abbrev pub cast_of : Expr → CType → Expr
cast_of e t = Cast' tt (more_of-Expr e end_of-Expr) t

abbrev pub field_of : Expr → List ℕ → CType → Expr
field_of e name t = Field' tt (more_of-Expr e end_of-Expr) name t

-- the low bits of a number, as many as a promoted kind has: all of them where the number is one of the kind
abbrev pub bits_of : IntKind → ℕ → Value
bits_of I8 n = Vint (n % 2 ^ 32)
bits_of U8 n = Vint (n % 2 ^ 32)
bits_of I16 n = Vint (n % 2 ^ 32)
bits_of U16 n = Vint (n % 2 ^ 32)
bits_of I32 n = Vint (n % 2 ^ 32)
bits_of U32 n = Vint (n % 2 ^ 32)
bits_of I64 n = Vlong n
bits_of U64 n = Vlong n

-- 0 and 1 of type int
abbrev pub zero : Expr
zero = Const (Vint 0) int_type

abbrev pub one : Expr
one = Const (Vint 1) int_type

abbrev pub literal_zero : Translated
literal_zero = record { before = []; expr = zero; operand = record { ctype = int_type; standing = Zero } }

-- Casts.

-- a cast is inserted where the types differ, once arrays and functions are pointers
abbrev pub cast_into : CType → Translated → Expr
cast_into t a = if same_type (value_type a.operand) t then a.expr else cast_of a.expr t

-- this type, or else the operand's own
abbrev pub or_own : Option CType → Operand → CType
or_own (Some t) a = t
or_own None a = value_type a

abbrev pub usual_or_own : Operand → Operand → Operand → CType
usual_or_own a b own = or_own (number_of (value_type a) (value_type b)) own

abbrev pub common_or_own : Operand → Operand → Operand → CType
common_or_own a b own = or_own (common_type a b) own

abbrev pub promoted_or_own : Operand → CType
promoted_or_own a = or_own (promoted_type (value_type a)) a

-- The types that the operands of an operator are cast to: their common type in a comparison, the usual kind of two
-- numbers in arithmetic. A shift's left operand is promoted, and its amount keeps its kind, as does what is added to a
-- pointer.
abbrev pub left_type : IntOp → Operand → Operand → CType
left_type Shl a b = promoted_or_own a
left_type Shr a b = promoted_or_own a
left_type op a b = if is_comparison op then common_or_own a b a else usual_or_own a b a

abbrev pub right_type : IntOp → Operand → Operand → CType
right_type Shl a b = value_type b
right_type Shr a b = value_type b
right_type op a b = if is_comparison op then common_or_own a b b else usual_or_own a b b

abbrev pub combine : IntOp → Translated → Translated → CType → Expr
combine op a b t = binary_of op (cast_into (left_type op a.operand b.operand) a) (cast_into (right_type op a.operand b.operand) b) t

-- Tests. A comparison and `!` are tests as they are, and another expression is compared with 0.

abbrev pub begins_with_not : List Prefix → Bool
begins_with_not (before.Op Not place ∷ rest) = true
begins_with_not prefixes = false

abbrev pub is_truth : e.CExpr → Bool
is_truth (e.Parenthesised' p (e.more_of-CExpr inner e.end_of-CExpr)) = is_truth inner
is_truth (e.Prefixed' prefixes p operand) = begins_with_not prefixes
is_truth (e.Binary' p left (binary.Int op) place q right) = is_comparison op
is_truth e = false

abbrev pub test_of : e.CExpr → Translated → Expr
test_of e a = if is_truth e then a.expr else combine Ne a literal_zero int_type

-- Statements.

abbrev pub sequence : List Stmt → Stmt
sequence [] = Skip
sequence (s ∷ []) = s
sequence (s ∷ t ∷ more) = Seq (s ∷ t ∷ more)

-- sets a temporary, or stores at a place
abbrev pub store : Expr → Expr → Stmt
store (Temp x t) e = Set x e
store place e = Assign place e

-- Names. No name of C has a mark in it.

-- the k-th pulled read
abbrev pub pulled_name : ℕ → List ℕ
pulled_name k = codes "t'" ++ decimal k

-- the k-th variable of that name in a function
abbrev pub kth_name : List ℕ → ℕ → List ℕ
kth_name x k = x ++ codes "''" ++ decimal k

-- whether an expression stands for a place in memory
abbrev pub is_memory : Expr → Bool
is_memory (Var bound x t) = true
is_memory (Deref' p e t) = true
is_memory (Field' p e x t) = true
is_memory e = false
