-- Expressions as the program sees them, typed.
use Rattle.std.proofs.Common.{◌≡◌, ℕ, suc, List, [], ◌∷◌, length, Option, refl, ap, sym, ◌∙◌}
use denote.Hole.Carrier.{hidden}
use Rattle.floyd_text.specs.declared.place.Place.{Place}
use Rattle.floyd_int.specs.declared.kinds.IntOp.{IntOp}
use Rattle.floyd_cparse_trees.specs.declared.types.Identifier.{Identifier}
use Rattle.floyd_cparse_trees.specs.declared.expressions.BinaryOp.{BinaryOp}
use Rattle.floyd_cparse_trees.specs.declared.expressions.MemberOp.{MemberOp}
use Rattle.floyd_cparse_trees.specs.declared.expressions.Prefix.{Prefix}
use Rattle.floyd_cparse_trees.specs.declared.expressions.StepOp.{StepOp}
use Rattle.floyd_cparse_trees.specs.declared.expressions.CExpr.{CExpr, Parenthesised, Prefixed, PostfixStep, Index, Call, Member, Binary, Conditional, Assign}
use Rattle.floyd_cparse_trees.specs.declared.expressions.CExpr.TheBlock.{shape-the_row-CExpr-0, hidden-the_row-CExpr-0, shape-the_row-CExpr-1}
use Rattle.floyd_elab_names.specs.Refusing.{◌>>=◌}
use Rattle.floyd_elab_names.specs.Scopes.{Scopes}
use Rattle.floyd_ctyping.specs.Expressions.{operand_of, prefixed_operand, binary_operand, element_operand, conditional_operand, nested_step, nested_call, nested_assignment, member}

of_parenthesised : (s : Scopes) (a : CExpr) → operand_of s (Parenthesised a) ≡ operand_of s a
unfolding shape-the_row-CExpr-0 hidden-the_row-CExpr-0 hidden
of_parenthesised s a = refl

pub as_parenthesised : (s : Scopes) (e : CExpr) (a x_a : CExpr) → e ≡ Parenthesised a → x_a ≡ a → operand_of s e ≡ operand_of s x_a
as_parenthesised s e a x_a is h0 = ap (operand_of s) is ∙ of_parenthesised s a ∙ ap (λ (z : CExpr). operand_of s z) (sym h0)

of_prefixed : (s : Scopes) (prefixes : List Prefix) (a : CExpr) → operand_of s (Prefixed prefixes a) ≡ prefixed_operand s prefixes (operand_of s a)
unfolding shape-the_row-CExpr-0 hidden-the_row-CExpr-0 hidden
of_prefixed s prefixes a = refl

pub as_prefixed : (s : Scopes) (e : CExpr) (prefixes x_prefixes : List Prefix) (a x_a : CExpr) → e ≡ Prefixed prefixes a → x_prefixes ≡ prefixes → x_a ≡ a → operand_of s e ≡ prefixed_operand s x_prefixes (operand_of s x_a)
as_prefixed s e prefixes x_prefixes a x_a is h0 h1 = ap (operand_of s) is ∙ of_prefixed s prefixes a ∙ ap (λ (z : List Prefix). prefixed_operand s z (operand_of s a)) (sym h0) ∙ ap (λ (z : CExpr). prefixed_operand s x_prefixes (operand_of s z)) (sym h1)

of_step : (s : Scopes) (a : CExpr) (op : StepOp) (place : Place) → operand_of s (PostfixStep a op place) ≡ (operand_of s a >>= nested_step place)
unfolding shape-the_row-CExpr-0 hidden-the_row-CExpr-0 hidden
of_step s a op place = refl

pub as_step : (s : Scopes) (e : CExpr) (a x_a : CExpr) (op : StepOp) (place : Place) → e ≡ PostfixStep a op place → x_a ≡ a → operand_of s e ≡ (operand_of s x_a >>= nested_step place)
as_step s e a x_a op place is h0 = ap (operand_of s) is ∙ of_step s a op place ∙ ap (λ (z : CExpr). operand_of s z >>= nested_step place) (sym h0)

of_index : (s : Scopes) (a : CExpr) (place : Place) (b : CExpr) → operand_of s (Index a place b) ≡ element_operand s place (operand_of s a) (operand_of s b)
unfolding shape-the_row-CExpr-0 hidden-the_row-CExpr-0 hidden
of_index s a place b = refl

pub as_index : (s : Scopes) (e : CExpr) (a x_a : CExpr) (b x_b : CExpr) (place : Place) → e ≡ Index a place b → x_a ≡ a → x_b ≡ b → operand_of s e ≡ element_operand s place (operand_of s x_a) (operand_of s x_b)
as_index s e a x_a b x_b place is h0 h1 = ap (operand_of s) is ∙ of_index s a place b ∙ ap (λ (z : CExpr). element_operand s place (operand_of s z) (operand_of s b)) (sym h0) ∙ ap (λ (z : CExpr). element_operand s place (operand_of s x_a) (operand_of s z)) (sym h1)

number_of_arguments : (es : List CExpr) → length (shape-the_row-CExpr-1 es) ≡ length es
unfolding shape-the_row-CExpr-1
number_of_arguments [] = refl
number_of_arguments (e ∷ es) = ap suc (number_of_arguments es)

of_call : (s : Scopes) (a : CExpr) (place : Place) (arguments : List CExpr) → operand_of s (Call a place arguments) ≡ (operand_of s a >>= nested_call place (length arguments))
unfolding shape-the_row-CExpr-0 hidden-the_row-CExpr-0 hidden
of_call s a place arguments = ap (λ n. operand_of s a >>= nested_call place n) (number_of_arguments arguments)

pub as_call : (s : Scopes) (e : CExpr) (a x_a : CExpr) (place : Place) (arguments : List CExpr) (count : ℕ) → e ≡ Call a place arguments → x_a ≡ a → count ≡ length arguments → operand_of s e ≡ (operand_of s x_a >>= nested_call place count)
as_call s e a x_a place arguments count is h0 hn = ap (operand_of s) is ∙ of_call s a place arguments ∙ ap (λ (z : CExpr). operand_of s z >>= nested_call place (length arguments)) (sym h0) ∙ ap (λ n. operand_of s x_a >>= nested_call place n) (sym hn)

of_member : (s : Scopes) (a : CExpr) (op : MemberOp) (place : Place) (field : Identifier) → operand_of s (Member a op place field) ≡ (operand_of s a >>= member op place field)
unfolding shape-the_row-CExpr-0 hidden-the_row-CExpr-0 hidden
of_member s a op place field = refl

pub as_member : (s : Scopes) (e : CExpr) (a x_a : CExpr) (op : MemberOp) (place : Place) (field : Identifier) → e ≡ Member a op place field → x_a ≡ a → operand_of s e ≡ (operand_of s x_a >>= member op place field)
as_member s e a x_a op place field is h0 = ap (operand_of s) is ∙ of_member s a op place field ∙ ap (λ (z : CExpr). operand_of s z >>= member op place field) (sym h0)

of_binary : (s : Scopes) (a : CExpr) (op : BinaryOp) (place : Place) (b : CExpr) → operand_of s (Binary a op place b) ≡ binary_operand s op place (operand_of s a) (operand_of s b)
unfolding shape-the_row-CExpr-0 hidden-the_row-CExpr-0 hidden
of_binary s a op place b = refl

pub as_binary : (s : Scopes) (e : CExpr) (a x_a : CExpr) (b x_b : CExpr) (op : BinaryOp) (place : Place) → e ≡ Binary a op place b → x_a ≡ a → x_b ≡ b → operand_of s e ≡ binary_operand s op place (operand_of s x_a) (operand_of s x_b)
as_binary s e a x_a b x_b op place is h0 h1 = ap (operand_of s) is ∙ of_binary s a op place b ∙ ap (λ (z : CExpr). binary_operand s op place (operand_of s z) (operand_of s b)) (sym h0) ∙ ap (λ (z : CExpr). binary_operand s op place (operand_of s x_a) (operand_of s z)) (sym h1)

of_conditional : (s : Scopes) (test : CExpr) (place : Place) (a : CExpr) (b : CExpr) → operand_of s (Conditional test place a b) ≡ conditional_operand s place (operand_of s test) (operand_of s a) (operand_of s b)
unfolding shape-the_row-CExpr-0 hidden-the_row-CExpr-0 hidden
of_conditional s test place a b = refl

pub as_conditional : (s : Scopes) (e : CExpr) (test x_test : CExpr) (a x_a : CExpr) (b x_b : CExpr) (place : Place) → e ≡ Conditional test place a b → x_test ≡ test → x_a ≡ a → x_b ≡ b → operand_of s e ≡ conditional_operand s place (operand_of s x_test) (operand_of s x_a) (operand_of s x_b)
as_conditional s e test x_test a x_a b x_b place is h0 h1 h2 = ap (operand_of s) is ∙ of_conditional s test place a b ∙ ap (λ (z : CExpr). conditional_operand s place (operand_of s z) (operand_of s a) (operand_of s b)) (sym h0) ∙ ap (λ (z : CExpr). conditional_operand s place (operand_of s x_test) (operand_of s z) (operand_of s b)) (sym h1) ∙ ap (λ (z : CExpr). conditional_operand s place (operand_of s x_test) (operand_of s x_a) (operand_of s z)) (sym h2)

of_assign : (s : Scopes) (a : CExpr) (op : Option IntOp) (place : Place) (value : CExpr) → operand_of s (Assign a op place value) ≡ (operand_of s a >>= nested_assignment place)
unfolding shape-the_row-CExpr-0 hidden-the_row-CExpr-0 hidden
of_assign s a op place value = refl

pub as_assign : (s : Scopes) (e : CExpr) (a x_a : CExpr) (op : Option IntOp) (place : Place) (value : CExpr) → e ≡ Assign a op place value → x_a ≡ a → operand_of s e ≡ (operand_of s x_a >>= nested_assignment place)
as_assign s e a x_a op place value is h0 = ap (operand_of s) is ∙ of_assign s a op place value ∙ ap (λ (z : CExpr). operand_of s z >>= nested_assignment place) (sym h0)
