-- What the expressions that elaboration makes of integers give.
use Rattle.std.proofs.Common.{◌≡◌, ℕ, Bool, true, false, ℤ, Option, Some, None, if◌then◌else◌, refl, sym, ◌∙◌, ap, ap₂, subst, arith}
use Rattle.std.proofs.lemmas.Int.{ints}
use Rattle.std.specs.Prelude.{IfSome, option_map, option_and_then}
use Rattle.floyd_int.specs.declared.kinds.IntKind.{IntKind}
use Rattle.floyd_int.specs.declared.kinds.IntKind.TheVariants.{I32}
use Rattle.floyd_int.specs.declared.kinds.IntOp.{IntOp}
use Rattle.floyd_int.specs.declared.kinds.IntOp.TheVariants.{Shl, Shr}
use Rattle.floyd_int.specs.Kind.{InRange, repr_of}
use Rattle.floyd_int.specs.Operation.{left_shift, right_shift, negation_of}
use Rattle.floyd_ctypes.specs.declared.ctype.CType.{Int}
use Rattle.floyd_ctypes.specs.Structs.{Structs}
use Rattle.floyd_elab_names.specs.Types.{same_kind, promote}
use Rattle.floyd_clight.specs.declared.syntax.Expr.{Expr}
use Rattle.floyd_clight.specs.declared.syntax.UnaryOp.{UnaryOp}
use Rattle.floyd_clight.specs.declared.syntax.UnaryOp.TheVariants.{Neg, Complement, Not}
use Rattle.floyd_clight.specs.Types.{type_of}
use Rattle.floyd_clight_machine.specs.Integers as i
use Rattle.floyd_clight_machine.specs.Evaluation.{Temps, Look, eval_by, unary_value, binary_value, cast_value}
use Rattle.floyd_elab_expressions.specs.Clight.{unary_of, binary_of, cast_of, is_memory}
use Rattle.floyd_elab_laws.specs.Conversions.{converted}
use Rattle.floyd_elab_laws.specs.Numbers.{of_both, truth, is_zero, negation, complement, result_kind, operation, shift}
use Rattle.floyd_elab_laws.specs.Laws.{value_as}
use Rattle.floyd_elab_laws.proofs.KindLemmas.{converted_same, converted_range, promotion_range, same_kind_is}
use Rattle.floyd_elab_laws.proofs.ValueLemmas.{IsWide, cast_as, minus_as, complement_as, opposite_as, binary_as, operation_range, left_as, right_as, value_range, negation_below, turned_below, left_below, right_below}

-- a number that is cast where its kind is another one
abbrev pub into : IntKind → IntKind → Expr → Expr
into j k x = if same_kind j k then x else cast_of x (Int k)

pub not_memory : (j k : IntKind) (x : Expr) → is_memory x ≡ false → is_memory (into j k x) ≡ false
not_memory j k x h = by (same_kind j k)
  where
    by : (t : Bool) → is_memory (if t then x else cast_of x (Int k)) ≡ false
    by true = h
    by false = refl

pub into_type : (j k : IntKind) (x : Expr) → type_of x ≡ Int j → type_of (into j k x) ≡ Int k
into_type j k x h = by (same_kind j k) refl
  where
    by : (t : Bool) → same_kind j k ≡ t → type_of (if t then x else cast_of x (Int k)) ≡ Int k
    by true e = h ∙ ap Int (same_kind_is j k e)
    by false e = refl

-- conversions of values that may be undefined
pub kept_same : (k : IntKind) (v : Option ℤ) → IfSome v (InRange k) → option_map (converted k) v ≡ v
kept_same k None h = refl
kept_same k (Some z) h = ap Some (converted_same k z h)

pub kept_range : (k : IntKind) (v : Option ℤ) → IfSome (option_map (converted k) v) (InRange k)
kept_range k None = tt
kept_range k (Some z) = converted_range k z

pub promoted_range : (k : IntKind) (v : Option ℤ) → IfSome v (InRange k) → IfSome v (InRange (promote k))
promoted_range k None h = tt
promoted_range k (Some z) h = promotion_range k z h

then_range : (k : IntKind) (f : ℤ → Option ℤ) (v : Option ℤ) → ((z : ℤ) → IfSome (f z) (InRange k)) → IfSome (option_and_then f v) (InRange k)
then_range k f None h = tt
then_range k f (Some z) h = h z

both_range : (k : IntKind) (f : ℤ → ℤ → Option ℤ) (u v : Option ℤ) → ((x y : ℤ) → IfSome (f x y) (InRange k)) → IfSome (of_both f u v) (InRange k)
both_range k f None v h = tt
both_range k f (Some x) v h = then_range k (f x) v (h x)

pub both_none : (f : ℤ → ℤ → Option ℤ) (u : Option ℤ) → of_both f u None ≡ None
both_none f None = refl
both_none f (Some x) = refl

cast_values : (j k : IntKind) (v : Option ℤ) → IfSome v (InRange j) → option_and_then (i.cast j k) (option_map (value_as j) v) ≡ option_map (value_as k) (option_map (converted k) v)
cast_values j k None h = refl
cast_values j k (Some z) h = cast_as j k z h

unary_values : (op : UnaryOp) (k r : IntKind) (g : ℤ → Option ℤ) (v : Option ℤ) → ((z : ℤ) → InRange k z → i.unary op k (value_as k z) ≡ option_map (value_as r) (g z)) → IfSome v (InRange k) → option_and_then (i.unary op k) (option_map (value_as k) v) ≡ option_map (value_as r) (option_and_then g v)
unary_values op k r g None f h = refl
unary_values op k r g (Some z) f h = f z h

binary_values : (op : IntOp) (j l r : IntKind) (g : ℤ → ℤ → Option ℤ) (u v : Option ℤ) → ((x y : ℤ) → InRange j x → InRange l y → i.binary op j l (value_as j x) (value_as l y) ≡ option_map (value_as r) (g x y)) → IfSome u (InRange j) → IfSome v (InRange l) →
    option_and_then (λ a. option_and_then (i.binary op j l a) (option_map (value_as l) v)) (option_map (value_as j) u) ≡ option_map (value_as r) (of_both g u v)
binary_values op j l r g None v f hu hv = refl
binary_values op j l r g (Some x) None f hu hv = refl
binary_values op j l r g (Some x) (Some y) f hu hv = f x y hu hv

negation_range : (k : IntKind) (z : ℤ) → IfSome (negation k z) (InRange k)
negation_range k z = value_range k (negation_of k (repr_of k z)) (negation_below k (repr_of k z))

complement_range : (k : IntKind) (z : ℤ) → IfSome (complement k z) (InRange k)
complement_range k z = value_range k (Some (i.complement_of k (repr_of k z))) (turned_below k z)

pub truth_range : (t : Bool) → InRange I32 (truth t)
truth_range true = record { from_least = omega (arith, ints); to_greatest = omega (arith, ints) }
truth_range false = record { from_least = omega (arith, ints); to_greatest = omega (arith, ints) }

mapped : (v : Option ℤ) → option_and_then (λ z. Some (truth (is_zero z))) v ≡ option_map (λ z. truth (is_zero z)) v
mapped None = refl
mapped (Some z) = refl

-- the ranges of what operators give
pub minus_range : (k : IntKind) (v : Option ℤ) → IfSome (option_and_then (negation k) (option_map (converted k) v)) (InRange k)
minus_range k v = then_range k (negation k) (option_map (converted k) v) (negation_range k)

pub complemented_range : (k : IntKind) (v : Option ℤ) → IfSome (option_and_then (complement k) (option_map (converted k) v)) (InRange k)
complemented_range k v = then_range k (complement k) (option_map (converted k) v) (complement_range k)

pub opposite_range : (v : Option ℤ) → IfSome (option_map (λ z. truth (is_zero z)) v) (InRange I32)
opposite_range None = tt
opposite_range (Some z) = truth_range (is_zero z)

pub arithmetic_range : (op : IntOp) (k : IntKind) (u v : Option ℤ) → IfSome (of_both (operation op k) (option_map (converted k) u) (option_map (converted k) v)) (InRange (result_kind op k))
arithmetic_range op k u v = both_range (result_kind op k) (operation op k) (option_map (converted k) u) (option_map (converted k) v) (operation_range op k)

pub left_range : (k : IntKind) (u v : Option ℤ) → IfSome (of_both (shift left_shift k) u v) (InRange k)
left_range k u v = both_range k (shift left_shift k) u v (λ a b. value_range k (left_shift k a b) (left_below k a b))

pub right_range : (k : IntKind) (u v : Option ℤ) → IfSome (of_both (shift right_shift k) u v) (InRange k)
right_range k u v = both_range k (shift right_shift k) u v (λ a b. value_range k (right_shift k a b) (right_below k a b))

-- where the look and the structs are those of the program
module _ (structs : Structs) (look : Look) (temps : Temps) where
  -- an expression of the kind k has the value v
  pub record Evals (x : Expr) (k : IntKind) (v : Option ℤ) : Type 0 where
    pub ctype : type_of x ≡ Int k
    pub range : IfSome v (InRange k)
    pub value : eval_by structs look temps x ≡ option_map (value_as k) v

  pub cast_evals : (x : Expr) (j k : IntKind) (v : Option ℤ) → Evals x j v → Evals (cast_of x (Int k)) k (option_map (converted k) v)
  cast_evals x j k v h =
      record {
        ctype = refl;
        range = kept_range k v;
        value = ap₂ (λ t u. option_and_then (cast_value t (Int k)) u) h.ctype h.value ∙ cast_values j k v h.range;
      }

  pub into_evals : (x : Expr) (j k : IntKind) (v : Option ℤ) → Evals x j v → Evals (into j k x) k (option_map (converted k) v)
  into_evals x j k v h = by (same_kind j k) refl
    where
      same : Evals x j (option_map (converted j) v)
      same =
          let e = kept_same j v h.range in
          record { ctype = h.ctype; range = subst (λ o. IfSome o (InRange j)) (sym e) h.range; value = h.value ∙ ap (option_map (value_as j)) (sym e) }

      by : (t : Bool) → same_kind j k ≡ t → Evals (if t then x else cast_of x (Int k)) k (option_map (converted k) v)
      by true e = subst (λ c. Evals x c (option_map (converted c) v)) (same_kind_is j k e) same
      by false e = cast_evals x j k v h

  unary_evals : (op : UnaryOp) (x : Expr) (k r : IntKind) (v : Option ℤ) (g : ℤ → Option ℤ) → Evals x k v → ((z : ℤ) → InRange k z → i.unary op k (value_as k z) ≡ option_map (value_as r) (g z)) → ((z : ℤ) → IfSome (g z) (InRange r)) → Evals (unary_of op x (Int r)) r (option_and_then g v)
  unary_evals op x k r v g h f c =
      record {
        ctype = refl;
        range = then_range r g v c;
        value = ap₂ (λ t u. option_and_then (unary_value look op t) u) h.ctype h.value ∙ unary_values op k r g v f h.range;
      }

  binary_evals : (op : IntOp) (x y : Expr) (j l r : IntKind) (u v : Option ℤ) (g : ℤ → ℤ → Option ℤ) → Evals x j u → Evals y l v → ((a b : ℤ) → InRange j a → InRange l b → i.binary op j l (value_as j a) (value_as l b) ≡ option_map (value_as r) (g a b)) → ((a b : ℤ) → IfSome (g a b) (InRange r)) → Evals (binary_of op x y (Int r)) r (of_both g u v)
  binary_evals op x y j l r u v g hx hy f c =
      record {
        ctype = refl;
        range = both_range r g u v c;
        value =
            ap₂ (λ s t. option_and_then (λ a. option_and_then (binary_value structs look op s t a) (eval_by structs look temps y)) (eval_by structs look temps x)) hx.ctype hy.ctype
            ∙ ap₂ (λ s t. option_and_then (λ a. option_and_then (i.binary op j l a) t) s) hx.value hy.value
            ∙ binary_values op j l r g u v f hx.range hy.range;
      }

  -- `-`, `~` and `!` on what is promoted before
  pub minus_evals : (x : Expr) (j k : IntKind) (v : Option ℤ) → IsWide k → Evals x j v → Evals (unary_of Neg (into j k x) (Int k)) k (option_and_then (negation k) (option_map (converted k) v))
  minus_evals x j k v w h =
      unary_evals Neg (into j k x) k k (option_map (converted k) v) (negation k) (into_evals x j k v h) (λ z r. minus_as k z w) (λ z. negation_range k z)

  pub complement_evals : (x : Expr) (j k : IntKind) (v : Option ℤ) → IsWide k → Evals x j v → Evals (unary_of Complement (into j k x) (Int k)) k (option_and_then (complement k) (option_map (converted k) v))
  complement_evals x j k v w h =
      unary_evals Complement (into j k x) k k (option_map (converted k) v) (complement k) (into_evals x j k v h) (λ z r. complement_as k z w) (λ z. complement_range k z)

  pub opposite_evals : (x : Expr) (j k : IntKind) (v : Option ℤ) → IfSome v (InRange k) → Evals x j v → Evals (unary_of Not (into j k x) (Int I32)) I32 (option_map (λ z. truth (is_zero z)) v)
  opposite_evals x j k v r h =
      let e = kept_same k v r in
      subst (Evals (unary_of Not (into j k x) (Int I32)) I32) (ap (option_and_then (λ z. Some (truth (is_zero z)))) e ∙ mapped v)
      (unary_evals Not (into j k x) k I32 (option_map (converted k) v) (λ z. Some (truth (is_zero z))) (into_evals x j k v h) (λ z c. opposite_as k z c) (λ z. truth_range (is_zero z)))

  -- an operator on operands of one kind
  pub arithmetic_evals : (op : IntOp) → ((k l : IntKind) (a b : ℕ) → i.on_bits op k l a b ≡ i.operate op (i.common k l) a b) → (x y : Expr) (j l k : IntKind) (u v : Option ℤ) → IsWide k → Evals x j u → Evals y l v →
      Evals (binary_of op (into j k x) (into l k y) (Int (result_kind op k))) (result_kind op k) (of_both (operation op k) (option_map (converted k) u) (option_map (converted k) v))
  arithmetic_evals op on x y j l k u v w hx hy =
      binary_evals op (into j k x) (into l k y) k k (result_kind op k) (option_map (converted k) u) (option_map (converted k) v) (operation op k) (into_evals x j k u hx) (into_evals y l k v hy)
      (λ a b _ _. binary_as op on k a b w) (λ a b. operation_range op k a b)

  -- a shift; the amount keeps its kind
  pub left_evals : (x y : Expr) (j l k : IntKind) (u v : Option ℤ) → IsWide k → Evals x j u → Evals y l v → Evals (binary_of Shl (into j k x) (into l l y) (Int k)) k (of_both (shift left_shift k) (option_map (converted k) u) (option_map (converted l) v))
  left_evals x y j l k u v w hx hy =
      binary_evals Shl (into j k x) (into l l y) k l k (option_map (converted k) u) (option_map (converted l) v) (shift left_shift k) (into_evals x j k u hx) (into_evals y l l v hy)
      (λ a b ha hb. left_as k l a b w ha hb) (λ a b. value_range k (left_shift k a b) (left_below k a b))

  pub right_evals : (x y : Expr) (j l k : IntKind) (u v : Option ℤ) → IsWide k → Evals x j u → Evals y l v → Evals (binary_of Shr (into j k x) (into l l y) (Int k)) k (of_both (shift right_shift k) (option_map (converted k) u) (option_map (converted l) v))
  right_evals x y j l k u v w hx hy =
      binary_evals Shr (into j k x) (into l l y) k l k (option_map (converted k) u) (option_map (converted l) v) (shift right_shift k) (into_evals x j k u hx) (into_evals y l l v hy)
      (λ a b ha hb. right_as k l a b w ha hb) (λ a b. value_range k (right_shift k a b) (right_below k a b))
