-- Expressions as the program makes them.
use Rattle.std.proofs.Common.{◌≡◌, ℕ, List, refl, ap, ◌∙◌}
use denote.Hole.Carrier.{hidden}
use Rattle.floyd_int.specs.declared.kinds.IntOp.{IntOp}
use Rattle.floyd_ctypes.specs.declared.ctype.CType.{CType}
use Rattle.floyd_clight.specs.declared.syntax.UnaryOp.{UnaryOp}
use Rattle.floyd_clight.specs.declared.syntax.Expr.{Expr, Deref, AddrOf, Unary, Binary, Cast, Field}
use Rattle.floyd_clight.specs.declared.syntax.Expr.TheBlock.{shape-the_row-Expr-0, hidden-the_row-Expr-0}
use Rattle.floyd_elab_expressions.specs.Clight.{deref_of, address_of, unary_of, binary_of, cast_of, field_of}

deref_is : (e : Expr) (t : CType) → Deref e t ≡ deref_of e t
unfolding shape-the_row-Expr-0 hidden-the_row-Expr-0 hidden
deref_is e t = refl

pub deref_made : (x e : Expr) (t : CType) → x ≡ e → Deref x t ≡ deref_of e t
deref_made x e t same = ap (λ (y : Expr). Deref y t) same ∙ deref_is e t

address_is : (e : Expr) (t : CType) → AddrOf e t ≡ address_of e t
unfolding shape-the_row-Expr-0 hidden-the_row-Expr-0 hidden
address_is e t = refl

pub address_made : (x e : Expr) (t : CType) → x ≡ e → AddrOf x t ≡ address_of e t
address_made x e t same = ap (λ (y : Expr). AddrOf y t) same ∙ address_is e t

unary_is : (op : UnaryOp) (e : Expr) (t : CType) → Unary op e t ≡ unary_of op e t
unfolding shape-the_row-Expr-0 hidden-the_row-Expr-0 hidden
unary_is op e t = refl

pub unary_made : (op : UnaryOp) (x e : Expr) (t : CType) → x ≡ e → Unary op x t ≡ unary_of op e t
unary_made op x e t same = ap (λ (y : Expr). Unary op y t) same ∙ unary_is op e t

binary_is : (op : IntOp) (a b : Expr) (t : CType) → Binary op a b t ≡ binary_of op a b t
unfolding shape-the_row-Expr-0 hidden-the_row-Expr-0 hidden
binary_is op a b t = refl

pub binary_made : (op : IntOp) (x a y b : Expr) (t : CType) → x ≡ a → y ≡ b → Binary op x y t ≡ binary_of op a b t
binary_made op x a y b t same other = ap (λ (z : Expr). Binary op z y t) same ∙ ap (λ (z : Expr). Binary op a z t) other ∙ binary_is op a b t

cast_is : (e : Expr) (t : CType) → Cast e t ≡ cast_of e t
unfolding shape-the_row-Expr-0 hidden-the_row-Expr-0 hidden
cast_is e t = refl

pub cast_made : (x e : Expr) (t : CType) → x ≡ e → Cast x t ≡ cast_of e t
cast_made x e t same = ap (λ (y : Expr). Cast y t) same ∙ cast_is e t

field_is : (e : Expr) (name : List ℕ) (t : CType) → Field e name t ≡ field_of e name t
unfolding shape-the_row-Expr-0 hidden-the_row-Expr-0 hidden
field_is e name t = refl

pub field_made : (x e : Expr) (name : List ℕ) (t : CType) → x ≡ e → Field x name t ≡ field_of e name t
field_made x e name t same = ap (λ (y : Expr). Field y name t) same ∙ field_is e name t
