-- Expressions by their parts as the program sees them, translated.
use Rattle.std.proofs.Common.{◌≡◌, ℕ, List, length, Option, ap, sym, ◌∙◌}
use Rattle.floyd_text.specs.declared.place.Place.{Place}
use Rattle.floyd_int.specs.declared.kinds.IntOp.{IntOp}
use Rattle.floyd_cparse_trees.specs.declared.types.Identifier.{Identifier}
use Rattle.floyd_cparse_trees.specs.declared.expressions.BinaryOp.{BinaryOp}
use Rattle.floyd_cparse_trees.specs.declared.expressions.BinaryOp.TheVariants as binary
use Rattle.floyd_cparse_trees.specs.declared.expressions.MemberOp.{MemberOp}
use Rattle.floyd_cparse_trees.specs.declared.expressions.Prefix.{Prefix}
use Rattle.floyd_cparse_trees.specs.declared.expressions.StepOp.{StepOp}
use Rattle.floyd_cparse_trees.specs.declared.expressions.CExpr.{CExpr, Parenthesised, Prefixed, PostfixStep, Index, Call, Member, Binary, Conditional, Assign}
use Rattle.floyd_elab_names.specs.Refusing.{◌>>=◌}
use Rattle.floyd_elab_names.specs.Scopes.{Scopes}
use Rattle.floyd_ctyping.specs.Expressions as t
use Rattle.floyd_elab_expressions.specs.declared.progress.Progress.{Progress}
use Rattle.floyd_elab_expressions.specs.Progress.{Elaborating}
use Rattle.floyd_elab_expressions.specs.Clight.{Translated}
use Rattle.floyd_elab_expressions.specs.Expressions.{expression, rvalue, with_prefixes, before_member, member, binary_operator, subscript, nested_refusal}
use Rattle.floyd_elab_expressions.proofs.Bridges.{of_parenthesised, of_prefixed, of_step, of_call, of_index, of_member, of_binary, of_assign}
use Rattle.floyd_elab_expressions.proofs.Operations.{both}
use Rattle.floyd_elab_expressions.proofs.Answering.{in_two}

at : (f g : Elaborating Translated) (p : Progress) → f ≡ g → f p ≡ g p
at f g p e = ap (λ (k : Elaborating Translated). k p) e

pub as_parenthesised : (s : Scopes) (e a x : CExpr) → e ≡ Parenthesised a → x ≡ a → (p : Progress) → expression s e p ≡ expression s x p
as_parenthesised s e a x is h0 p = at (expression s e) (expression s x) p (ap (expression s) is ∙ of_parenthesised s a ∙ ap (λ (z : CExpr). expression s z) (sym h0))

pub as_prefixed : (s : Scopes) (e : CExpr) (prefixes xs : List Prefix) (a x : CExpr) → e ≡ Prefixed prefixes a → xs ≡ prefixes → x ≡ a → (p : Progress) → expression s e p ≡ with_prefixes s xs (expression s x) p
as_prefixed s e prefixes xs a x is h0 h1 p = at (expression s e) (with_prefixes s xs (expression s x)) p (ap (expression s) is ∙ of_prefixed s prefixes a ∙ ap (λ (z : List Prefix). with_prefixes s z (expression s a)) (sym h0) ∙ ap (λ (z : CExpr). with_prefixes s xs (expression s z)) (sym h1))

pub as_step : (s : Scopes) (e a x : CExpr) (op : StepOp) (place : Place) → e ≡ PostfixStep a op place → x ≡ a → (p : Progress) → expression s e p ≡ (expression s x >>= λ b. nested_refusal (t.nested_step place b.operand) b) p
as_step s e a x op place is h0 p = at (expression s e) (expression s x >>= λ b. nested_refusal (t.nested_step place b.operand) b) p (ap (expression s) is ∙ of_step s a op place ∙ ap (λ (z : CExpr). expression s z >>= λ b. nested_refusal (t.nested_step place b.operand) b) (sym h0))

pub as_index : (s : Scopes) (e a x : CExpr) (place : Place) (i y : CExpr) → e ≡ Index a place i → x ≡ a → y ≡ i → (p : Progress) → expression s e p ≡ expression s (Index x place y) p
as_index s e a x place i y is h0 h1 p = at (expression s e) (expression s (Index x place y)) p (ap (expression s) (is ∙ ap (λ (z : CExpr). Index z place i) (sym h0) ∙ ap (λ (z : CExpr). Index x place z) (sym h1)))

pub as_call : (s : Scopes) (e a x : CExpr) (place : Place) (arguments : List CExpr) (count : ℕ) → e ≡ Call a place arguments → x ≡ a → count ≡ length arguments → (p : Progress) → expression s e p ≡ (expression s x >>= λ b. nested_refusal (t.nested_call place count b.operand) b) p
as_call s e a x place arguments count is h0 hn p = at (expression s e) (expression s x >>= λ b. nested_refusal (t.nested_call place count b.operand) b) p (ap (expression s) is ∙ of_call s a place arguments ∙ ap (λ (z : CExpr). expression s z >>= λ b. nested_refusal (t.nested_call place (length arguments) b.operand) b) (sym h0) ∙ ap (λ n. expression s x >>= λ b. nested_refusal (t.nested_call place n b.operand) b) (sym hn))

pub as_member : (s : Scopes) (e a x : CExpr) (op : MemberOp) (place : Place) (field : Identifier) → e ≡ Member a op place field → x ≡ a → (p : Progress) → expression s e p ≡ (expression s x >>= λ b. before_member op b >>= member op place field) p
as_member s e a x op place field is h0 p =
    at (expression s e) (expression s x >>= before_member op >>= member op place field) p (ap (expression s) is ∙ of_member s a op place field ∙ ap (λ (z : CExpr). expression s z >>= before_member op >>= member op place field) (sym h0))
    ∙ in_two (expression s x p) (before_member op) (member op place field)

pub as_binary : (s : Scopes) (e a x : CExpr) (op : BinaryOp) (place : Place) (b y : CExpr) (o : BinaryOp) → e ≡ Binary a op place b → x ≡ a → y ≡ b → op ≡ o → (p : Progress) → expression s e p ≡ expression s (Binary x o place y) p
as_binary s e a x op place b y o is h0 h1 ho p = at (expression s e) (expression s (Binary x o place y)) p (ap (expression s) (is ∙ ap (λ (z : CExpr). Binary z op place b) (sym h0) ∙ ap (λ (z : CExpr). Binary x op place z) (sym h1) ∙ ap (λ (z : BinaryOp). Binary x z place y) ho))

pub as_conditional : (s : Scopes) (e test c : CExpr) (place : Place) (a x b y : CExpr) → e ≡ Conditional test place a b → c ≡ test → x ≡ a → y ≡ b → (p : Progress) → expression s e p ≡ expression s (Conditional c place x y) p
as_conditional s e test c place a x b y is h0 h1 h2 p = at (expression s e) (expression s (Conditional c place x y)) p (ap (expression s) (is ∙ ap (λ (z : CExpr). Conditional z place a b) (sym h0) ∙ ap (λ (z : CExpr). Conditional c place z b) (sym h1) ∙ ap (λ (z : CExpr). Conditional c place x z) (sym h2)))

pub as_assign : (s : Scopes) (e a x : CExpr) (op : Option IntOp) (place : Place) (value : CExpr) → e ≡ Assign a op place value → x ≡ a → (p : Progress) → expression s e p ≡ (expression s x >>= λ b. nested_refusal (t.nested_assignment place b.operand) b) p
as_assign s e a x op place value is h0 p = at (expression s e) (expression s x >>= λ b. nested_refusal (t.nested_assignment place b.operand) b) p (ap (expression s) is ∙ of_assign s a op place value ∙ ap (λ (z : CExpr). expression s z >>= λ b. nested_refusal (t.nested_assignment place b.operand) b) (sym h0))

pub at_binary : (s : Scopes) (a : CExpr) (op : IntOp) (place : Place) (b : CExpr) (p : Progress) → expression s (Binary a (binary.Int op) place b) p ≡ (rvalue s a >>= both (rvalue s b) (binary_operator op place)) p
at_binary s a op place b p = at (expression s (Binary a (binary.Int op) place b)) (rvalue s a >>= both (rvalue s b) (binary_operator op place)) p (of_binary s a op place b)

pub at_index : (s : Scopes) (a : CExpr) (place : Place) (i : CExpr) (p : Progress) → expression s (Index a place i) p ≡ (rvalue s a >>= both (rvalue s i) (subscript place)) p
at_index s a place i p = at (expression s (Index a place i)) (rvalue s a >>= both (rvalue s i) (subscript place)) p (of_index s a place i)
