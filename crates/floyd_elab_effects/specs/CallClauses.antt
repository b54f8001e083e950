-- Calls by the list of their arguments, and what is done behind statements that were there before.
use Rattle.std.specs.Prelude.{ℕ, List, [], ◌∷◌, ◌++◌, length, Option, Result, Ok, Err, option_and_then}
use Rattle.floyd_text.specs.declared.place.Place.{Place}
use Rattle.floyd_text.specs.declared.refusal.Refusal.{Refusal}
use Rattle.floyd_int.specs.declared.kinds.IntOp.{IntOp}
use Rattle.floyd_ctypes.specs.declared.ctype.CType.{CType}
use Rattle.floyd_cparse_trees.specs.declared.expressions.CExpr.{CExpr}
use Rattle.floyd_cparse_trees.specs.declared.expressions.Prefix.{Prefix}
use Rattle.floyd_cparse_trees.specs.declared.expressions.StepOp.{StepOp}
use Rattle.floyd_elab_names.specs.Refusals.{ill_typed}
use Rattle.floyd_elab_names.specs.Refusing.{◌>>=◌, ◌>>◌, pure, unless, or_refuse}
use Rattle.floyd_elab_names.specs.Scopes.{Scopes}
use Rattle.floyd_elab_names.specs.Types.{pointee}
use Rattle.floyd_ctyping.specs.Operators as o
use Rattle.floyd_clight.specs.declared.syntax.Expr.{Expr}
use Rattle.floyd_clight.specs.declared.syntax.Stmt.{Stmt}
use Rattle.floyd_elab_effects.specs.declared.calls.CallParts.{CallParts}
use Rattle.floyd_elab_expressions.specs.Clight.{Translated, cast_into}
use Rattle.floyd_elab_expressions.specs.Progress.{Elaborating}
use Rattle.floyd_elab_expressions.specs.Expressions.{expression, rvalue, with_prefixes, binary_operator}
use Rattle.floyd_elab_effects.specs.Effects.{Calling, send_to, as_target, step_effect}

-- what is passed for a value: the statements before it, and the value where it fits
abbrev pub fit_then : Place → CType → Translated → Elaborating (List Stmt × Expr)
fit_then place t a = do
  unless (ill_typed place) (o.fits_into t a.operand)
  pure (a.before, cast_into t a)

-- an argument for a parameter of that type
abbrev pub one_argument : Scopes → Place → CType → CExpr → Elaborating (List Stmt × Expr)
one_argument scopes place t argument = rvalue scopes argument >>= fit_then place t

-- one argument after the other
abbrev pub all_arguments : Scopes → Place → List CType → List CExpr → Elaborating (List Stmt × List Expr)
all_arguments scopes place [] arguments = pure ([], [])
all_arguments scopes place (t ∷ ts) [] = pure ([], [])
all_arguments scopes place (t ∷ ts) (argument ∷ rest) = do
  one ← one_argument scopes place t argument
  more ← all_arguments scopes place ts rest
  pure (one.0 ++ more.0, one.1 ∷ more.1)

-- the parameters and the result of what a value of this type calls, where it has so many parameters
abbrev pub signature_in : ℕ → CType → Option (List CType × CType)
signature_in n t = option_and_then (o.with_count n) (option_and_then o.signature_of (pointee t))

-- what is passed to what a value of this type calls, and the type of the result
abbrev pub arguments_to : Scopes → Place → CType → List CExpr → Elaborating ((List Stmt × List Expr) × CType)
arguments_to scopes place t arguments = do
  signature ← or_refuse (ill_typed place) (signature_in (length arguments) t)
  all ← all_arguments scopes place signature.0 arguments
  pure (all, signature.1)

abbrev pub whole_call : Translated → (List Stmt × List Expr) × CType → Calling
whole_call f all = record { before = f.before ++ all.0.0; callee = f.expr; arguments = all.0.1; result = all.1 }

-- a call of what was translated
abbrev pub callee_then : Scopes → Place → List CExpr → Translated → Elaborating Calling
callee_then scopes place arguments f = do
  all ← arguments_to scopes place (o.value_type f.operand) arguments
  pure (whole_call f all)

-- a call with these arguments
abbrev pub call_of : Scopes → CExpr → Place → List CExpr → Elaborating Calling
call_of scopes function place arguments = rvalue scopes function >>= callee_then scopes place arguments

-- an operator's result goes to the target
abbrev pub send_operation : IntOp → Place → Translated → Translated → Translated → Elaborating (List Stmt)
send_operation op place target a b = do
  sum ← binary_operator op place a b
  send_to place target sum sum.before

-- what an assignment goes to is judged first
abbrev pub on_target : Place → (Translated → Elaborating (List Stmt)) → Translated → Elaborating (List Stmt)
on_target place k target = as_target place target >>= k

-- `++` and `--` before what these prefixes are before
abbrev pub prefix_step : Scopes → StepOp → Place → List Prefix → CExpr → Elaborating (List Stmt)
prefix_step scopes op place rest operand = with_prefixes scopes rest (expression scopes operand) >>= step_effect op place

-- the same behind statements that were there before
abbrev pub one_behind : {S : Type 0} → List Stmt → Result ((List Stmt × Expr) × S) Refusal → Result ((List Stmt × Expr) × S) Refusal
one_behind there (Ok r) = Ok ((there ++ r.0.0, r.0.1), r.1)
one_behind there (Err refusal) = Err refusal

-- the same behind statements and arguments that were there before
abbrev pub all_behind : {S : Type 0} → List Stmt → List Expr → Result ((List Stmt × List Expr) × S) Refusal → Result ((List Stmt × List Expr) × S) Refusal
all_behind there passed (Ok r) = Ok ((there ++ r.0.0, passed ++ r.0.1), r.1)
all_behind there passed (Err refusal) = Err refusal

abbrev pub to_behind : {S : Type 0} → List Stmt → Result (((List Stmt × List Expr) × CType) × S) Refusal → Result (((List Stmt × List Expr) × CType) × S) Refusal
to_behind there (Ok r) = Ok (((there ++ r.0.0.0, r.0.0.1), r.0.1), r.1)
to_behind there (Err refusal) = Err refusal

abbrev pub call_behind : {S : Type 0} → List Stmt → Result (Calling × S) Refusal → Result (Calling × S) Refusal
call_behind there (Ok r) = Ok (record r.0 { before = there ++ r.0.before }, r.1)
call_behind there (Err refusal) = Err refusal

-- a call's parts, with the statements that go before it
abbrev pub call_with : List Stmt → CallParts → Calling
call_with before parts = record { before = before; callee = parts.callee; arguments = parts.arguments; result = parts.result }
