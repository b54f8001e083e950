-- Elaboration of assignments, steps and calls, and of the right sides of assignments.
use Rattle.std.specs.Prelude.{ℕ, List, [], ◌∷◌, ◌++◌, length, Option, Some, None}
use Rattle.floyd_text.specs.declared.place.Place.{Place}
use Rattle.floyd_int.specs.declared.kinds.IntOp.{IntOp}
use Rattle.floyd_int.specs.declared.kinds.IntOp.TheVariants.{Add, Sub}
use Rattle.floyd_ctypes.specs.declared.ctype.CType.{CType}
use Rattle.floyd_cparse_trees.specs.declared.expressions.CExpr as e
use Rattle.floyd_cparse_trees.specs.declared.expressions.Prefix.TheVariants as before
use Rattle.floyd_cparse_trees.specs.declared.expressions.StepOp.{StepOp}
use Rattle.floyd_cparse_trees.specs.declared.expressions.StepOp.TheVariants.{Increment, Decrement}
use Rattle.floyd_elab_names.specs.Refusals.{ill_typed}
use Rattle.floyd_elab_names.specs.Refusing.{◌>>=◌, ◌>>◌, pure, unless, or_refuse}
use Rattle.floyd_elab_names.specs.Scopes.{Scopes}
use Rattle.floyd_elab_names.specs.Types.{int_type}
use Rattle.floyd_ctyping.specs.Operators as o
use Rattle.floyd_clight.specs.declared.syntax.Expr.{Expr, Temp}
use Rattle.floyd_clight.specs.declared.syntax.Stmt as s
use Rattle.floyd_clight.specs.declared.syntax.Stmt.{Stmt}
use Rattle.floyd_elab_expressions.specs.Clight.{Translated, one, cast_into, store}
use Rattle.floyd_elab_expressions.specs.Progress.{Elaborating, pull}
use Rattle.floyd_elab_expressions.specs.Expressions.{read, binary_operator, with_prefixes, expression, rvalue}

-- A call, translated: the statements before it, what is called, what is argument_row, and the type of its result.
pub record Calling : Type 0 where
  pub before : List Stmt
  pub callee : Expr
  pub arguments : List Expr
  pub result : CType

-- the last statement of an effect: the value, cast where the types differ, goes to its target. It fits there, or is ill
-- typed at `place`.
abbrev pub send_to : Place → Translated → Translated → List Stmt → Elaborating (List Stmt)
send_to place target value before = do
  unless (ill_typed place) (o.fits_into target.operand.ctype value.operand)
  pure (before ++ store target.expr (cast_into target.operand.ctype value) ∷ [])

-- what an assignment goes to, judged before what is assigned
abbrev pub as_target : Place → Translated → Elaborating Translated
as_target place target = do
  unless (ill_typed place) (o.is_target target.operand)
  pure target

-- `lv op= r` is `lv = lv op r` with what goes before lv once: lv is read before r
abbrev pub update : IntOp → Place → Translated → Elaborating Translated → Elaborating (List Stmt)
update op place target value = do
  a ← read target
  b ← value
  sum ← binary_operator op place a b
  send_to place target sum sum.before

-- `++` and `--` are `op= 1`
abbrev pub step_op : StepOp → IntOp
step_op Increment = Add
step_op Decrement = Sub

abbrev pub literal_one : Translated
literal_one = record { before = []; expr = one; operand = o.value_of_type int_type }

abbrev pub step_effect : StepOp → Place → Translated → Elaborating (List Stmt)
step_effect op place target = do
  _ ← as_target place target
  update (step_op op) place target (pure literal_one)

module _ (scopes : Scopes) where
  -- Arguments for parameters of these types. Each one's fit is judged directly behind it, at the call's parenthesis.
  abbrev pub argument_row : {m : _} → Place → List CType → e.Row_of-CExpr m → Elaborating (List Stmt × List Expr)
  argument_row place [] arguments = pure ([], [])
  argument_row place (t ∷ ts) e.end_of-CExpr = pure ([], [])
  argument_row place (t ∷ ts) (e.more_of-CExpr argument rest) = do
    a ← rvalue scopes argument
    unless (ill_typed place) (o.fits_into t a.operand)
    more ← argument_row place ts rest
    pure (a.before ++ more.0, cast_into t a ∷ more.1)

  -- a call: its callee and the number of its arguments are judged before them
  abbrev pub parts_of_call : {m : _} → e.CExpr → Place → ℕ → e.Row_of-CExpr m → Elaborating Calling
  parts_of_call function place count arguments = do
    f ← rvalue scopes function
    signature ← or_refuse (ill_typed place) (o.callee_signature count f.operand)
    all ← argument_row place signature.0 arguments
    pure (record { before = f.before ++ all.0; callee = f.expr; arguments = all.1; result = signature.1 })

  -- a call whose result is used: it goes to the next temporary
  abbrev pub call_result : Calling → Elaborating Translated
  call_result call = do
    x ← pull call.result
    pure (record { before = call.before ++ s.Call (Some x) call.callee call.arguments ∷ []; expr = Temp x call.result; operand = o.value_of_type call.result })

  -- a right side: a call, or an expression
  abbrev pub right_side : e.CExpr → Elaborating Translated
  right_side (e.Call' p (e.more_of-CExpr function e.end_of-CExpr) place shape arguments) =
      parts_of_call function place (length shape) arguments >>= call_result
  right_side e = rvalue scopes e

  -- `lv = r`, and `lv op= r` where the right side is no call
  abbrev pub assignment : Place → Option IntOp → e.CExpr → Translated → Elaborating (List Stmt)
  assignment place None r target = do
    value ← right_side r
    send_to place target value (target.before ++ value.before)
  assignment place (Some op) r target = update op place target (rvalue scopes r)

  -- the assignment of an initial value to its variable
  abbrev pub first_assignment : Place → e.CExpr → Translated → Elaborating (List Stmt)
  first_assignment place r target = as_target place target >>= assignment place None r

  -- an effect: an assignment, a step or a call. No other expression is one.
  abbrev pub effect : e.CExpr → Elaborating (List Stmt)
  effect (e.Assign' p (e.more_of-CExpr target e.end_of-CExpr) op place q (e.more_of-CExpr r e.end_of-CExpr)) =
      expression scopes target >>= as_target place >>= assignment place op r
  effect (e.PostfixStep' p (e.more_of-CExpr operand e.end_of-CExpr) op place) = expression scopes operand >>= step_effect op place
  effect (e.Prefixed' (before.Step op place ∷ rest) p (e.more_of-CExpr operand e.end_of-CExpr)) =
      with_prefixes scopes rest (expression scopes operand) >>= step_effect op place
  effect (e.Call' p (e.more_of-CExpr function e.end_of-CExpr) place shape arguments) = do
    call ← parts_of_call function place (length shape) arguments
    pure (call.before ++ s.Call None call.callee call.arguments ∷ [])
  effect e = pure []
