-- What tests are, and the branches of `!`.
use Rattle.std.proofs.Common.{◌≡◌, true, false, Some, None, Result, Ok, refl, sym, subst, ap, ◌∙◌}
use Rattle.std.specs.Prelude.{if◌then◌else◌}
use denote.Hole.Carrier.{hidden}
use Rattle.floyd_text.specs.declared.refusal.RuleStop.{RuleStop}
use Rattle.floyd_text.specs.Gives.{RuleGives, RuleStops}
use Rattle.floyd_int.specs.declared.kinds.IntOp.{IntOp}
use Rattle.floyd_int.specs.Operation.{is_comparison}
use Rattle.floyd_ctypes.specs.declared.ctype.CType.{CType}
use Rattle.floyd_ctypes.specs.Structs.{Structs}
use Rattle.floyd_clight.specs.declared.syntax.Expr.{Expr, Binary, Unary}
use Rattle.floyd_clight.specs.declared.syntax.Expr.TheBlock.{shape-the_row-Expr-0, hidden-the_row-Expr-0}
use Rattle.floyd_clight.specs.declared.syntax.UnaryOp.{UnaryOp}
use Rattle.floyd_assert_trees.specs.declared.assertion.Assertion.{Assertion}
use Rattle.floyd_symexpr_rows.proofs.SayingLemmas.{stops}
use Rattle.floyd_conditions.specs.declared.branches.Branches.{Branches}
use Rattle.floyd_conditions.specs.Conditions.{branches_by, branches_of, comparison_of, exchanged, is_not, plain_branches, swapped}

of_binary : (op : IntOp) (a b : Expr) (t : CType) → comparison_of (Binary op a b t) ≡ (if is_comparison op then Some (op, a, b) else None)
unfolding shape-the_row-Expr-0 hidden-the_row-Expr-0 hidden
of_binary op a b t = refl

-- a comparison, and another operator
pub compares : (e : Expr) (op : IntOp) (a b x y : Expr) (t : CType) → e ≡ Binary op a b t → is_comparison op ≡ true → x ≡ a → y ≡ b → Some (op, x, y) ≡ comparison_of e
compares e op a b x y t is c f g =
    ap (λ z. Some (op, z, y)) f ∙ ap (λ z. Some (op, a, z)) g
    ∙ sym (ap comparison_of is ∙ of_binary op a b t ∙ ap (λ k. if k then Some (op, a, b) else None) c)

pub counts : (e : Expr) (op : IntOp) (a b : Expr) (t : CType) → e ≡ Binary op a b t → is_comparison op ≡ false → None ≡ comparison_of e
counts e op a b t is c = sym (ap comparison_of is ∙ of_binary op a b t ∙ ap (λ k. if k then Some (op, a, b) else None) c)

-- the branches of a comparison, and of what is none
pub at_comparison : (source : Assertion) (structs : Structs) (e : Expr) (c : IntOp × Expr × Expr) (r : Result Branches RuleStop) → Some c ≡ comparison_of e → RuleGives (λ z. z) r (branches_by source structs (Some c) e) → RuleGives (λ z. z) r (plain_branches source structs e)
at_comparison source structs e c r is h = subst (λ o. RuleGives (λ z. z) r (branches_by source structs o e)) is h

pub at_other : (source : Assertion) (structs : Structs) (e : Expr) (r : Result Branches RuleStop) → None ≡ comparison_of e → RuleGives (λ z. z) r (branches_by source structs None e) → RuleGives (λ z. z) r (plain_branches source structs e)
at_other source structs e r is h = subst (λ o. RuleGives (λ z. z) r (branches_by source structs o e)) is h

-- unary operators
of_unary : (source : Assertion) (structs : Structs) (op : UnaryOp) (a : Expr) (t : CType) → branches_of source structs (Unary op a t) ≡ (if is_not op then swapped (branches_of source structs a) else plain_branches source structs (Unary op a t))
unfolding shape-the_row-Expr-0 hidden-the_row-Expr-0 hidden
of_unary source structs op a t = refl

unary_is : (source : Assertion) (structs : Structs) (e : Expr) (op : UnaryOp) (a x : Expr) (t : CType) → e ≡ Unary op a t → x ≡ a → branches_of source structs e ≡ (if is_not op then swapped (branches_of source structs x) else plain_branches source structs e)
unary_is source structs e op a x t is f =
    subst (λ d. branches_of source structs d ≡ (if is_not op then swapped (branches_of source structs x) else plain_branches source structs d)) (sym is)
    (subst (λ y. branches_of source structs (Unary op a t) ≡ (if is_not op then swapped (branches_of source structs y) else plain_branches source structs (Unary op a t))) (sym f) (of_unary source structs op a t))

not_is : (source : Assertion) (structs : Structs) (e : Expr) (op : UnaryOp) (a x : Expr) (t : CType) → e ≡ Unary op a t → is_not op ≡ true → x ≡ a → branches_of source structs e ≡ swapped (branches_of source structs x)
not_is source structs e op a x t is n f =
    unary_is source structs e op a x t is f ∙ ap (λ k. if k then swapped (branches_of source structs x) else plain_branches source structs e) n

pub not_stops : (source : Assertion) (structs : Structs) (e : Expr) (op : UnaryOp) (a x : Expr) (t : CType) (stop : RuleStop) → e ≡ Unary op a t → is_not op ≡ true → x ≡ a → RuleStops stop (branches_of source structs x) → RuleStops stop (branches_of source structs e)
not_stops source structs e op a x t stop is n f h =
    subst (RuleStops stop) (sym (not_is source structs e op a x t is n f)) (stops stop (branches_of source structs x) (λ b. Ok (exchanged b)) h)

pub not_gives : (source : Assertion) (structs : Structs) (e : Expr) (op : UnaryOp) (a x : Expr) (t : CType) (b made : Branches) → e ≡ Unary op a t → is_not op ≡ true → x ≡ a → branches_of source structs x ≡ Ok b → made ≡ exchanged b → branches_of source structs e ≡ Ok made
not_gives source structs e op a x t b made is n f h m =
    not_is source structs e op a x t is n f ∙ ap swapped h ∙ ap Ok (sym m)

-- another operator
pub other_is : (source : Assertion) (structs : Structs) (e : Expr) (op : UnaryOp) (a : Expr) (t : CType) (r : Result Branches RuleStop) → e ≡ Unary op a t → is_not op ≡ false → RuleGives (λ z. z) r (plain_branches source structs e) → RuleGives (λ z. z) r (branches_of source structs e)
other_is source structs e op a t r is n h =
    subst (RuleGives (λ z. z) r) (sym (unary_is source structs e op a a t is refl ∙ ap (λ k. if k then swapped (branches_of source structs a) else plain_branches source structs e) n)) h
