-- How many nodes and prefixes an expression has: typing goes down this number.
use Rattle.std.proofs.Common.{◌≡◌, ℕ, ◌+◌, ◌<◌, List, length, Option, refl, ap, arith}
use denote.Hole.Carrier.{hidden}
use Rattle.floyd_text.specs.declared.place.Place.{Place}
use Rattle.floyd_int.specs.declared.kinds.IntOp.{IntOp}
use Rattle.floyd_cparse_trees.specs.declared.types.Identifier.{Identifier}
use Rattle.floyd_cparse_trees.specs.declared.expressions.BinaryOp.{BinaryOp}
use Rattle.floyd_cparse_trees.specs.declared.expressions.MemberOp.{MemberOp}
use Rattle.floyd_cparse_trees.specs.declared.expressions.Prefix.{Prefix}
use Rattle.floyd_cparse_trees.specs.declared.expressions.StepOp.{StepOp}
use Rattle.floyd_cparse_trees.specs.declared.expressions.CExpr as e
use Rattle.floyd_cparse_trees.specs.declared.expressions.CExpr.{CExpr, Parenthesised, Prefixed, PostfixStep, Index, Call, Member, Binary, Conditional, Assign}
use Rattle.floyd_cparse_trees.specs.declared.expressions.CExpr.TheBlock.{shape-the_row-CExpr-0, hidden-the_row-CExpr-0}

pub weight : CExpr → ℕ
weight (e.Name i) = 0
weight (e.Literal l) = 0
weight (e.Parenthesised' p (e.more_of-CExpr inner e.end_of-CExpr)) = weight inner + 1
weight (e.Prefixed' prefixes p (e.more_of-CExpr operand e.end_of-CExpr)) = length prefixes + weight operand + 2
weight (e.SizeOf place n) = 0
weight (e.PostfixStep' p (e.more_of-CExpr operand e.end_of-CExpr) op place) = weight operand + 1
weight (e.Index' p (e.more_of-CExpr array e.end_of-CExpr) place q (e.more_of-CExpr index e.end_of-CExpr)) = weight array + weight index + 2
weight (e.Call' p (e.more_of-CExpr function e.end_of-CExpr) place shape arguments) = weight function + 1
weight (e.Member' p (e.more_of-CExpr operand e.end_of-CExpr) op place field) = weight operand + 1
weight (e.Binary' p (e.more_of-CExpr left e.end_of-CExpr) op place q (e.more_of-CExpr right e.end_of-CExpr)) = weight left + weight right + 3
weight (e.Conditional' p (e.more_of-CExpr test e.end_of-CExpr) place q (e.more_of-CExpr then_part e.end_of-CExpr) r (e.more_of-CExpr else_part e.end_of-CExpr)) =
    weight test + weight then_part + weight else_part + 2
weight (e.Assign' p (e.more_of-CExpr target e.end_of-CExpr) op place q value) = weight target + 1

weight_parenthesised : (a : CExpr) → weight (Parenthesised a) ≡ weight a + 1
unfolding shape-the_row-CExpr-0 hidden-the_row-CExpr-0 hidden weight
weight_parenthesised a = refl

pub falls_parenthesised : (t : ℕ) (e : CExpr) (a x_a : CExpr) → weight e ≡ t → e ≡ Parenthesised a → x_a ≡ a → weight x_a < t
falls_parenthesised t e a x_a size is h0 = omega (arith, size, ap weight is, weight_parenthesised a, ap weight h0)

weight_prefixed : (prefixes : List Prefix) (a : CExpr) → weight (Prefixed prefixes a) ≡ length prefixes + weight a + 2
unfolding shape-the_row-CExpr-0 hidden-the_row-CExpr-0 hidden weight
weight_prefixed prefixes a = refl

pub falls_prefixed : (t : ℕ) (e : CExpr) (prefixes x_prefixes : List Prefix) (a x_a : CExpr) → weight e ≡ t → e ≡ Prefixed prefixes a → x_prefixes ≡ prefixes → x_a ≡ a → length x_prefixes + weight x_a + 1 < t
falls_prefixed t e prefixes x_prefixes a x_a size is h0 h1 = omega (arith, size, ap weight is, weight_prefixed prefixes a, ap (λ (l : List Prefix). length l) h0, ap weight h1)

weight_step : (a : CExpr) (op : StepOp) (place : Place) → weight (PostfixStep a op place) ≡ weight a + 1
unfolding shape-the_row-CExpr-0 hidden-the_row-CExpr-0 hidden weight
weight_step a op place = refl

pub falls_step : (t : ℕ) (e : CExpr) (a x_a : CExpr) (op : StepOp) (place : Place) → weight e ≡ t → e ≡ PostfixStep a op place → x_a ≡ a → weight x_a < t
falls_step t e a x_a op place size is h0 = omega (arith, size, ap weight is, weight_step a op place, ap weight h0)

weight_index : (a : CExpr) (place : Place) (b : CExpr) → weight (Index a place b) ≡ weight a + weight b + 2
unfolding shape-the_row-CExpr-0 hidden-the_row-CExpr-0 hidden weight
weight_index a place b = refl

pub falls_index : (t : ℕ) (e : CExpr) (a x_a : CExpr) (b x_b : CExpr) (place : Place) → weight e ≡ t → e ≡ Index a place b → x_a ≡ a → x_b ≡ b → weight x_a + weight x_b + 1 < t
falls_index t e a x_a b x_b place size is h0 h1 = omega (arith, size, ap weight is, weight_index a place b, ap weight h0, ap weight h1)

weight_call : (a : CExpr) (place : Place) (arguments : List CExpr) → weight (Call a place arguments) ≡ weight a + 1
unfolding shape-the_row-CExpr-0 hidden-the_row-CExpr-0 hidden weight
weight_call a place arguments = refl

pub falls_call : (t : ℕ) (e : CExpr) (a x_a : CExpr) (place : Place) (arguments : List CExpr) → weight e ≡ t → e ≡ Call a place arguments → x_a ≡ a → weight x_a < t
falls_call t e a x_a place arguments size is h0 = omega (arith, size, ap weight is, weight_call a place arguments, ap weight h0)

weight_member : (a : CExpr) (op : MemberOp) (place : Place) (field : Identifier) → weight (Member a op place field) ≡ weight a + 1
unfolding shape-the_row-CExpr-0 hidden-the_row-CExpr-0 hidden weight
weight_member a op place field = refl

pub falls_member : (t : ℕ) (e : CExpr) (a x_a : CExpr) (op : MemberOp) (place : Place) (field : Identifier) → weight e ≡ t → e ≡ Member a op place field → x_a ≡ a → weight x_a < t
falls_member t e a x_a op place field size is h0 = omega (arith, size, ap weight is, weight_member a op place field, ap weight h0)

weight_binary : (a : CExpr) (op : BinaryOp) (place : Place) (b : CExpr) → weight (Binary a op place b) ≡ weight a + weight b + 3
unfolding shape-the_row-CExpr-0 hidden-the_row-CExpr-0 hidden weight
weight_binary a op place b = refl

pub falls_binary : (t : ℕ) (e : CExpr) (a x_a : CExpr) (b x_b : CExpr) (op : BinaryOp) (place : Place) → weight e ≡ t → e ≡ Binary a op place b → x_a ≡ a → x_b ≡ b → weight x_a + weight x_b + 2 < t
falls_binary t e a x_a b x_b op place size is h0 h1 = omega (arith, size, ap weight is, weight_binary a op place b, ap weight h0, ap weight h1)

weight_conditional : (test : CExpr) (place : Place) (a : CExpr) (b : CExpr) → weight (Conditional test place a b) ≡ weight test + weight a + weight b + 2
unfolding shape-the_row-CExpr-0 hidden-the_row-CExpr-0 hidden weight
weight_conditional test place a b = refl

pub falls_conditional : (t : ℕ) (e : CExpr) (test x_test : CExpr) (a x_a : CExpr) (b x_b : CExpr) (place : Place) → weight e ≡ t → e ≡ Conditional test place a b → x_test ≡ test → x_a ≡ a → x_b ≡ b → weight x_test + weight x_a + weight x_b + 1 < t
falls_conditional t e test x_test a x_a b x_b place size is h0 h1 h2 = omega (arith, size, ap weight is, weight_conditional test place a b, ap weight h0, ap weight h1, ap weight h2)

weight_assign : (a : CExpr) (op : Option IntOp) (place : Place) (value : CExpr) → weight (Assign a op place value) ≡ weight a + 1
unfolding shape-the_row-CExpr-0 hidden-the_row-CExpr-0 hidden weight
weight_assign a op place value = refl

pub falls_assign : (t : ℕ) (e : CExpr) (a x_a : CExpr) (op : Option IntOp) (place : Place) (value : CExpr) → weight e ≡ t → e ≡ Assign a op place value → x_a ≡ a → weight x_a < t
falls_assign t e a x_a op place value size is h0 = omega (arith, size, ap weight is, weight_assign a op place value, ap weight h0)
