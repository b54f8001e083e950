-- Expressions as the program sees them, translated.
use Rattle.std.proofs.Common.{◌≡◌, List, [], ◌∷◌, ◌++◌, suc, length, Option, refl, ap}
use denote.Hole.Carrier.{hidden}
use Rattle.floyd_text.specs.declared.place.Place.{Place}
use Rattle.floyd_int.specs.declared.kinds.IntOp.{IntOp}
use Rattle.floyd_cparse_trees.specs.declared.types.Identifier.{Identifier}
use Rattle.floyd_cparse_trees.specs.declared.expressions.BinaryOp.TheVariants as binary
use Rattle.floyd_cparse_trees.specs.declared.expressions.MemberOp.{MemberOp}
use Rattle.floyd_cparse_trees.specs.declared.expressions.Prefix.{Prefix}
use Rattle.floyd_cparse_trees.specs.declared.expressions.StepOp.{StepOp}
use Rattle.floyd_cparse_trees.specs.declared.expressions.CExpr.{CExpr, Parenthesised, Prefixed, PostfixStep, Index, Call, Member, Binary, Conditional, Assign}
use Rattle.floyd_cparse_trees.specs.declared.expressions.CExpr.TheBlock.{shape-the_row-CExpr-0, hidden-the_row-CExpr-0, shape-the_row-CExpr-1, hidden-the_row-CExpr-1}
use Rattle.floyd_elab_names.specs.Refusing.{◌>>=◌, ◌>>◌, pure}
use Rattle.floyd_elab_names.specs.Scopes.{Scopes}
use Rattle.floyd_elab_names.specs.Types.{int_type}
use Rattle.floyd_ctyping.specs.Expressions as t
use Rattle.floyd_elab_expressions.specs.declared.logic.Logical.{Logical}
use Rattle.floyd_elab_expressions.specs.declared.logic.Logical.TheVariants.{And, Or}
use Rattle.floyd_elab_expressions.specs.Clight.{Translated, test_of}
use Rattle.floyd_elab_expressions.specs.Progress.{Elaborating, typing, draw, pull}
use Rattle.floyd_elab_expressions.specs.LogicClauses.{op_of, short_circuit}
use Rattle.floyd_elab_expressions.specs.Expressions.{expression, rvalue, with_prefixes, before_member, member, binary_operator, subscript, truth, conditional_result, nested_refusal}

pub shape_length : (es : List CExpr) → length (shape-the_row-CExpr-1 es) ≡ length es
unfolding shape-the_row-CExpr-1
shape_length [] = refl
shape_length (e ∷ es) = ap (λ n. suc n) (shape_length es)

pub of_parenthesised : (s : Scopes) (e : CExpr) → expression s (Parenthesised e) ≡ expression s e
unfolding shape-the_row-CExpr-0 hidden-the_row-CExpr-0 hidden
of_parenthesised s e = refl

pub of_prefixed : (s : Scopes) (prefixes : List Prefix) (e : CExpr) → expression s (Prefixed prefixes e) ≡ with_prefixes s prefixes (expression s e)
unfolding shape-the_row-CExpr-0 hidden-the_row-CExpr-0 hidden
of_prefixed s prefixes e = refl

pub of_step : (s : Scopes) (e : CExpr) (op : StepOp) (place : Place) → expression s (PostfixStep e op place) ≡ (expression s e >>= λ a. nested_refusal (t.nested_step place a.operand) a)
unfolding shape-the_row-CExpr-0 hidden-the_row-CExpr-0 hidden
of_step s e op place = refl

pub of_call : (s : Scopes) (f : CExpr) (place : Place) (arguments : List CExpr) → expression s (Call f place arguments) ≡ (expression s f >>= λ a. nested_refusal (t.nested_call place (length arguments) a.operand) a)
unfolding shape-the_row-CExpr-0 hidden-the_row-CExpr-0 shape-the_row-CExpr-1 hidden-the_row-CExpr-1 hidden
of_call s f place arguments = ap (λ n. expression s f >>= λ a. nested_refusal (t.nested_call place n a.operand) a) (shape_length arguments)

pub of_index : (s : Scopes) (a : CExpr) (place : Place) (i : CExpr) → expression s (Index a place i) ≡ (rvalue s a >>= λ x. rvalue s i >>= λ y. subscript place x y)
unfolding shape-the_row-CExpr-0 hidden-the_row-CExpr-0 hidden
of_index s a place i = refl

pub of_member : (s : Scopes) (e : CExpr) (op : MemberOp) (place : Place) (field : Identifier) → expression s (Member e op place field) ≡ (expression s e >>= before_member op >>= member op place field)
unfolding shape-the_row-CExpr-0 hidden-the_row-CExpr-0 hidden
of_member s e op place field = refl

pub of_binary : (s : Scopes) (a : CExpr) (op : IntOp) (place : Place) (b : CExpr) → expression s (Binary a (binary.Int op) place b) ≡ (rvalue s a >>= λ x. rvalue s b >>= λ y. binary_operator op place x y)
unfolding shape-the_row-CExpr-0 hidden-the_row-CExpr-0 hidden
of_binary s a op place b = refl

-- behind the first operand of `&&` and `||`
abbrev pub tested_then : Scopes → Logical → CExpr → Place → CExpr → Translated → Elaborating Translated
tested_then s op left place right a = do
  typing (t.check_test place a.operand)
  x ← pull int_type
  b ← rvalue s right
  typing (t.check_test place b.operand)
  pure (truth x (a.before ++ short_circuit op (test_of left a) b.before (test_of right b) x ∷ []))

pub of_logical : (s : Scopes) (op : Logical) (a : CExpr) (place : Place) (b : CExpr) → expression s (Binary a (op_of op) place b) ≡ (rvalue s a >>= tested_then s op a place b)
unfolding shape-the_row-CExpr-0 hidden-the_row-CExpr-0 hidden
of_logical s And a place b = refl
of_logical s Or a place b = refl

-- behind the test of `?:`
abbrev pub branches : Scopes → CExpr → Place → CExpr → CExpr → Translated → Elaborating Translated
branches s test place one other c = do
  typing (t.check_test place c.operand)
  k ← draw
  a ← rvalue s one
  b ← rvalue s other
  conditional_result place k c.before (test_of test c) a b

pub of_conditional : (s : Scopes) (test : CExpr) (place : Place) (one other : CExpr) → expression s (Conditional test place one other) ≡ (rvalue s test >>= branches s test place one other)
unfolding shape-the_row-CExpr-0 hidden-the_row-CExpr-0 hidden
of_conditional s test place one other = refl

pub of_assign : (s : Scopes) (e : CExpr) (op : Option IntOp) (place : Place) (value : CExpr) → expression s (Assign e op place value) ≡ (expression s e >>= λ a. nested_refusal (t.nested_assignment place a.operand) a)
unfolding shape-the_row-CExpr-0 hidden-the_row-CExpr-0 hidden
of_assign s e op place value = refl
