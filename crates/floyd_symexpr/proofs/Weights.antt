-- How many operators an expression has: reading goes down this number.
use Rattle.std.proofs.Common.{◌≡◌, ℕ, ◌+◌, ◌<◌, List, refl, ap, arith}
use denote.Hole.Carrier.{hidden}
use Rattle.floyd_int.specs.declared.kinds.IntOp.{IntOp}
use Rattle.floyd_ctypes.specs.declared.ctype.CType.{CType}
use Rattle.floyd_clight.specs.declared.syntax.UnaryOp.{UnaryOp}
use Rattle.floyd_clight.specs.declared.syntax.Expr.{Expr, Const, Temp, Var, Deref, Deref', AddrOf, AddrOf', Unary, Unary', Binary, Binary', Cast, Cast', Field, Field', SizeOf, end_of-Expr, more_of-Expr}
use Rattle.floyd_clight.specs.declared.syntax.Expr.TheBlock.{shape-the_row-Expr-0, hidden-the_row-Expr-0}

pub weight : Expr → ℕ
weight (Const v t) = 0
weight (Temp x t) = 0
weight (Var binding x t) = 0
weight (Deref' p (more_of-Expr a end_of-Expr) t) = weight a + 1
weight (AddrOf' p (more_of-Expr a end_of-Expr) t) = weight a + 1
weight (Unary' op p (more_of-Expr a end_of-Expr) t) = weight a + 1
weight (Binary' op p (more_of-Expr a end_of-Expr) q (more_of-Expr b end_of-Expr) t) = weight a + weight b + 1
weight (Cast' p (more_of-Expr a end_of-Expr) t) = weight a + 1
weight (Field' p (more_of-Expr a end_of-Expr) x t) = weight a + 1
weight (SizeOf of t) = 0

weight_deref : (a : Expr) (t : CType) → weight (Deref a t) ≡ weight a + 1
unfolding shape-the_row-Expr-0 hidden-the_row-Expr-0 hidden weight
weight_deref a t = refl

pub below_deref : (e a x_a : Expr) (t : CType) → e ≡ Deref a t → x_a ≡ a → weight x_a < weight e
below_deref e a x_a t is same = omega (arith, ap weight is, weight_deref a t, ap weight same)

weight_address : (a : Expr) (t : CType) → weight (AddrOf a t) ≡ weight a + 1
unfolding shape-the_row-Expr-0 hidden-the_row-Expr-0 hidden weight
weight_address a t = refl

pub below_address : (e a x_a : Expr) (t : CType) → e ≡ AddrOf a t → x_a ≡ a → weight x_a < weight e
below_address e a x_a t is same = omega (arith, ap weight is, weight_address a t, ap weight same)

weight_unary : (op : UnaryOp) (a : Expr) (t : CType) → weight (Unary op a t) ≡ weight a + 1
unfolding shape-the_row-Expr-0 hidden-the_row-Expr-0 hidden weight
weight_unary op a t = refl

pub below_unary : (e : Expr) (op : UnaryOp) (a x_a : Expr) (t : CType) → e ≡ Unary op a t → x_a ≡ a → weight x_a < weight e
below_unary e op a x_a t is same = omega (arith, ap weight is, weight_unary op a t, ap weight same)

weight_cast : (a : Expr) (t : CType) → weight (Cast a t) ≡ weight a + 1
unfolding shape-the_row-Expr-0 hidden-the_row-Expr-0 hidden weight
weight_cast a t = refl

pub below_cast : (e a x_a : Expr) (t : CType) → e ≡ Cast a t → x_a ≡ a → weight x_a < weight e
below_cast e a x_a t is same = omega (arith, ap weight is, weight_cast a t, ap weight same)

weight_field : (a : Expr) (x : List ℕ) (t : CType) → weight (Field a x t) ≡ weight a + 1
unfolding shape-the_row-Expr-0 hidden-the_row-Expr-0 hidden weight
weight_field a x t = refl

pub below_field : (e a x_a : Expr) (x : List ℕ) (t : CType) → e ≡ Field a x t → x_a ≡ a → weight x_a < weight e
below_field e a x_a x t is same = omega (arith, ap weight is, weight_field a x t, ap weight same)

weight_binary : (op : IntOp) (a b : Expr) (t : CType) → weight (Binary op a b t) ≡ weight a + weight b + 1
unfolding shape-the_row-Expr-0 hidden-the_row-Expr-0 hidden weight
weight_binary op a b t = refl

-- both operands together
pub below_binary : (e : Expr) (op : IntOp) (a x_a b x_b : Expr) (t : CType) → e ≡ Binary op a b t → x_a ≡ a → x_b ≡ b → weight x_a + weight x_b < weight e
below_binary e op a x_a b x_b t is same others = omega (arith, ap weight is, weight_binary op a b t, ap weight same, ap weight others)

-- the left one alone, before the right one is looked at
pub below_left : (e : Expr) (op : IntOp) (a x_a b : Expr) (t : CType) → e ≡ Binary op a b t → x_a ≡ a → weight x_a < weight e
below_left e op a x_a b t is same = omega (arith, ap weight is, weight_binary op a b t, ap weight same)

pub below_right : (e : Expr) (op : IntOp) (a b x_b : Expr) (t : CType) → e ≡ Binary op a b t → x_b ≡ b → weight x_b < weight e
below_right e op a b x_b t is others = omega (arith, ap weight is, weight_binary op a b t, ap weight others)
