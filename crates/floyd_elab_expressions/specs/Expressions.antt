-- Elaboration of expressions. Operands go from left to right. Each read of memory draws the next number and sets a
-- temporary; an array or a function is not read, but gives its address.
use Rattle.std.specs.Prelude.{ℕ, ◌&&◌, List, [], ◌∷◌, ◌++◌, length, Option, Some, if◌then◌else◌}
use Rattle.floyd_text.specs.declared.place.Place.{Place}
use Rattle.floyd_int.specs.declared.kinds.IntOp.{IntOp}
use Rattle.floyd_int.specs.declared.kinds.IntOp.TheVariants.{Add}
use Rattle.floyd_ctypes.specs.declared.ctype.CType.{CType, Int}
use Rattle.floyd_cparse_trees.specs.declared.types.Identifier.{Identifier}
use Rattle.floyd_cparse_trees.specs.declared.types.Literal.{Literal}
use Rattle.floyd_cparse_trees.specs.declared.expressions.CExpr as e
use Rattle.floyd_cparse_trees.specs.declared.expressions.BinaryOp.TheVariants as binary
use Rattle.floyd_cparse_trees.specs.declared.expressions.MemberOp.{MemberOp}
use Rattle.floyd_cparse_trees.specs.declared.expressions.MemberOp.TheVariants.{Dot, Arrow}
use Rattle.floyd_cparse_trees.specs.declared.expressions.Prefix.{Prefix}
use Rattle.floyd_cparse_trees.specs.declared.expressions.Prefix.TheVariants as before
use Rattle.floyd_cparse_trees.specs.declared.expressions.PrefixOp.{PrefixOp}
use Rattle.floyd_cparse_trees.specs.declared.expressions.PrefixOp.TheVariants.{Minus, Plus, Complement, Not, Dereference, Address}
use Rattle.floyd_elab_names.specs.declared.meaning.Meaning.{Meaning}
use Rattle.floyd_elab_names.specs.declared.meaning.Meaning.TheVariants as m
use Rattle.floyd_elab_names.specs.declared.meaning.Storage.{Storage}
use Rattle.floyd_elab_names.specs.declared.meaning.Storage.TheVariants as kept
use Rattle.floyd_ctyping.specs.declared.operand.Operand.{Operand}
use Rattle.floyd_elab_names.specs.Refusing.{◌>>=◌, ◌>>◌, pure}
use Rattle.floyd_elab_names.specs.Typing.{Typing, the_structs}
use Rattle.floyd_elab_names.specs.Scopes.{Scopes, meaning_of}
use Rattle.floyd_elab_names.specs.Types.{int_type, size_type, is_scalar, pointee}
use Rattle.floyd_ctyping.specs.Operators as o
use Rattle.floyd_elab_names.specs.Declarators.{parenthesis, type_named}
use Rattle.floyd_ctyping.specs.Expressions as typed
use Rattle.floyd_clight.specs.declared.syntax.Binding.TheVariants as bound
use Rattle.floyd_clight.specs.declared.syntax.Expr.{Expr, Const, Temp, Var, SizeOf}
use Rattle.floyd_clight.specs.declared.syntax.Stmt.{Stmt, Set, If}
use Rattle.floyd_clight.specs.declared.syntax.UnaryOp.TheVariants as unary
use Rattle.floyd_elab_expressions.specs.Clight.{Translated, deref_of, address_of, unary_of, cast_of, field_of, bits_of, zero, one, cast_into, or_own, promoted_or_own, combine, test_of, sequence, is_memory, pulled_name}
use Rattle.floyd_elab_expressions.specs.Progress.{Elaborating, typing, draw, add_temporary, pull}

-- Reads.

-- sets the next temporary to it
abbrev pub pull_read : Translated → Elaborating Translated
pull_read a = do
  x ← pull a.operand.ctype
  pure (record { before = a.before ++ Set x a.expr ∷ []; expr = Temp x a.operand.ctype; operand = o.value_of_type a.operand.ctype })

-- the value of what was translated: a number or a pointer in memory is read
abbrev pub read : Translated → Elaborating Translated
read a = if is_memory a.expr && is_scalar a.operand.ctype then pull_read a else pure a

-- Names and literals.

-- A variable by what it is called in Clight. What its name stands for in the scope at its place decides whether it is a
-- temporary, the function's own variable with a block, or a variable of the file.
abbrev pub variable_of : Storage → List ℕ → CType → Expr
variable_of kept.Global x t = Var bound.File x t
variable_of kept.Block x t = Var bound.Block x t
variable_of kept.Temporary x t = Temp x t
variable_of kept.Parameter x t = Temp x t

abbrev pub name_expr : Identifier → CType → Option Meaning → Expr
name_expr i t (Some (m.Variable clight u storage)) = variable_of storage clight t
name_expr i t meaning = Var bound.File i.name t

abbrev pub identifier : Identifier → Option Meaning → Elaborating Translated
identifier i meaning = do
  a ← typing (typed.name_operand i meaning)
  pure (record { before = []; expr = name_expr i a.ctype meaning; operand = a })

abbrev pub literal : Literal → Translated
literal l = record { before = []; expr = Const (bits_of l.kind l.value) (Int l.kind); operand = typed.literal_operand l }

-- Operators.

abbrev pub prefix_expr : PrefixOp → Translated → CType → Expr
prefix_expr Minus a t = unary_of unary.Neg (cast_into t a) t
prefix_expr Plus a t = cast_into t a
prefix_expr Complement a t = unary_of unary.Complement (cast_into t a) t
prefix_expr Not a t = unary_of unary.Not (cast_into (promoted_or_own a.operand) a) t
prefix_expr Dereference a t = deref_of a.expr t
prefix_expr Address a t = address_of a.expr t

-- `&` does not read what it is applied to
abbrev pub before_operator : PrefixOp → Translated → Elaborating Translated
before_operator Address a = pure a
before_operator op a = read a

abbrev pub prefix_operator : PrefixOp → Place → Translated → Elaborating Translated
prefix_operator op place a = do
  r ← typing (typed.prefix_operator op place a.operand)
  pure (record { before = a.before; expr = prefix_expr op a r.ctype; operand = r })

-- a written cast stays, also one between equal types
abbrev pub cast_to : Place → CType → Translated → Elaborating Translated
cast_to place t a = do
  r ← typing (typed.cast_to place t a.operand)
  pure (record { before = a.before; expr = cast_of a.expr t; operand = r })

abbrev pub binary_operator : IntOp → Place → Translated → Translated → Elaborating Translated
binary_operator op place a b = do
  structs ← typing the_structs
  r ← typing (typed.gives_value place (o.binary_type structs op a.operand b.operand))
  pure (record { before = a.before ++ b.before; expr = combine op a b r.ctype; operand = r })

-- `a[i]` is `*(a + i)`
abbrev pub subscript : Place → Translated → Translated → Elaborating Translated
subscript place a i = do
  structs ← typing the_structs
  sum ← typing (typed.gives_value place (o.binary_type structs Add a.operand i.operand))
  r ← typing (typed.gives_object place (o.element_type structs a.operand i.operand))
  pure (record { before = a.before ++ i.before; expr = deref_of (combine Add a i sum.ctype) r.ctype; operand = r })

-- the struct that `.` takes a field of, or `->` behind a pointer
abbrev pub struct_expr : MemberOp → Translated → Expr
struct_expr Dot a = a.expr
struct_expr Arrow a = deref_of a.expr (or_own (pointee (o.value_type a.operand)) a.operand)

-- `.` does not read the struct before it
abbrev pub before_member : MemberOp → Translated → Elaborating Translated
before_member Dot a = pure a
before_member Arrow a = read a

abbrev pub member : MemberOp → Place → Identifier → Translated → Elaborating Translated
member op place field a = do
  r ← typing (typed.member op place field a.operand)
  pure (record { before = a.before; expr = field_of (struct_expr op a) field.name r.ctype; operand = r })

-- a temporary of type int that was set before
abbrev pub truth : List ℕ → List Stmt → Translated
truth x before = record { before = before; expr = Temp x int_type; operand = o.value_of_type int_type }

-- `a && b`, `a || b`: the second is only tested where the first does not decide
abbrev pub both : Expr → List Stmt → Expr → List ℕ → Stmt
both first before second x = If first (sequence (before ++ Set x second ∷ [])) (Set x zero)

abbrev pub one_of : Expr → List Stmt → Expr → List ℕ → Stmt
one_of first before second x = If first (Set x one) (sequence (before ++ Set x second ∷ []))

-- `a ? b : c`: each branch sets the temporary of the number k to its part, cast to the common type
abbrev pub branch : List ℕ → CType → Translated → Stmt
branch x t a = sequence (a.before ++ Set x (cast_into t a) ∷ [])

abbrev pub conditional_result : Place → ℕ → List Stmt → Expr → Translated → Translated → Elaborating Translated
conditional_result place k before test a b = do
  result ← typing (typed.gives_value place (o.common_type a.operand b.operand))
  add_temporary (pulled_name k) result.ctype
  let x = pulled_name k
  pure (record { before = before ++ If test (branch x result.ctype a) (branch x result.ctype b) ∷ []; expr = Temp x result.ctype; operand = result })

-- a step, an assignment or a call inside an expression is refused
abbrev pub nested_refusal : Typing Operand → Translated → Elaborating Translated
nested_refusal typing_of a = do
  r ← typing typing_of
  pure (record a { operand = r })

module _ (scopes : Scopes) where
  abbrev pub with_prefixes : List Prefix → Elaborating Translated → Elaborating Translated
  with_prefixes [] operand = operand
  with_prefixes (before.Op op place ∷ rest) operand = with_prefixes rest operand >>= before_operator op >>= prefix_operator op place
  with_prefixes (before.Step op place ∷ rest) operand = do
    a ← with_prefixes rest operand
    nested_refusal (typed.nested_step place a.operand) a
  with_prefixes (before.Cast n place ∷ rest) operand = do
    t ← typing (type_named scopes (parenthesis place) n)
    with_prefixes rest operand >>= read >>= cast_to place t

  -- an expression, which is not read yet
  abbrev pub expression : e.CExpr → Elaborating Translated
  expression (e.Name i) = identifier i (meaning_of scopes i.name)
  expression (e.Literal l) = pure (literal l)
  expression (e.Parenthesised' p (e.more_of-CExpr inner e.end_of-CExpr)) = expression inner
  expression (e.Prefixed' prefixes p (e.more_of-CExpr operand e.end_of-CExpr)) = with_prefixes prefixes (expression operand)
  expression (e.SizeOf place n) = do
    t ← typing (typed.sized_type scopes place n)
    pure (record { before = []; expr = SizeOf t size_type; operand = o.value_of_type size_type })
  expression (e.PostfixStep' p (e.more_of-CExpr operand e.end_of-CExpr) op place) = do
    a ← expression operand
    nested_refusal (typed.nested_step place a.operand) a
  expression (e.Index' p (e.more_of-CExpr array e.end_of-CExpr) place q (e.more_of-CExpr index e.end_of-CExpr)) = do
    a ← expression array >>= read
    i ← expression index >>= read
    subscript place a i
  expression (e.Call' p (e.more_of-CExpr function e.end_of-CExpr) place shape arguments) = do
    a ← expression function
    nested_refusal (typed.nested_call place (length shape) a.operand) a
  expression (e.Member' p (e.more_of-CExpr operand e.end_of-CExpr) op place field) =
      expression operand >>= before_member op >>= member op place field
  expression (e.Binary' p (e.more_of-CExpr left e.end_of-CExpr) (binary.Int op) place q (e.more_of-CExpr right e.end_of-CExpr)) = do
    a ← expression left >>= read
    b ← expression right >>= read
    binary_operator op place a b
  expression (e.Binary' p (e.more_of-CExpr left e.end_of-CExpr) binary.And place q (e.more_of-CExpr right e.end_of-CExpr)) = do
    a ← expression left >>= read
    typing (typed.check_test place a.operand)
    x ← pull int_type
    b ← expression right >>= read
    typing (typed.check_test place b.operand)
    pure (truth x (a.before ++ both (test_of left a) b.before (test_of right b) x ∷ []))
  expression (e.Binary' p (e.more_of-CExpr left e.end_of-CExpr) binary.Or place q (e.more_of-CExpr right e.end_of-CExpr)) = do
    a ← expression left >>= read
    typing (typed.check_test place a.operand)
    x ← pull int_type
    b ← expression right >>= read
    typing (typed.check_test place b.operand)
    pure (truth x (a.before ++ one_of (test_of left a) b.before (test_of right b) x ∷ []))
  expression (e.Conditional' p (e.more_of-CExpr test e.end_of-CExpr) place q (e.more_of-CExpr then_part e.end_of-CExpr) r (e.more_of-CExpr else_part e.end_of-CExpr)) = do
    c ← expression test >>= read
    typing (typed.check_test place c.operand)
    k ← draw
    a ← expression then_part >>= read
    b ← expression else_part >>= read
    conditional_result place k c.before (test_of test c) a b
  expression (e.Assign' p (e.more_of-CExpr target e.end_of-CExpr) op place q value) = do
    a ← expression target
    nested_refusal (typed.nested_assignment place a.operand) a

  -- the value of an expression
  abbrev pub rvalue : e.CExpr → Elaborating Translated
  rvalue e = expression e >>= read
