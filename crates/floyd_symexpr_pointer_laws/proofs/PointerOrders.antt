-- Pointers into one object are ordered as their offsets.
use Rattle.std.proofs.Common.{◌≡◌, ℕ, zero, suc, ◌+◌, ◌^◌, ◌<◌, ◌≤◌, Bool, true, false, ◌&&◌, ◌||◌, ℤ, pos, negsuc, ◌+ℤ◌, ◌∷◌, Option, Some, None, refl, sym, ap, ap₂, subst, ◌∙◌, if◌then◌else◌, arith}
use Rattle.std.specs.Prelude.{int_le, int_lt, nat_le, nat_lt}
use Rattle.std.specs.Int.{from_bool}
use Rattle.std.proofs.lemmas.Int.{ints}
use Rattle.std.proofs.lemmas.Bool.{eq-eqb}
use Rattle.std.proofs.lemmas.Bool.Decides.{nat_tests}
use Rattle.floyd_int.specs.declared.kinds.IntOp.{IntOp}
use Rattle.floyd_int.specs.declared.kinds.IntOp.TheVariants as c
use Rattle.floyd_int.specs.declared.kinds.Value.{Value}
use Rattle.floyd_int.specs.declared.kinds.Value.TheVariants.{Vint, Vptr}
use Rattle.floyd_int.specs.Kind.{modulo}
use Rattle.floyd_int.proofs.Modulo.{modulo-small}
use Rattle.floyd_clight_machine.specs.Looking.{Look, is_valid_below, is_weakly_valid}
use Rattle.floyd_clight_machine.specs.Pointers.{compare_pointers, ordered_pointers, truth}
use Rattle.floyd_tree_sorts.specs.declared.heads.Head.TheVariants as h
use Rattle.floyd_tree_sorts.specs.declared.operators.Operator.TheVariants.{PtrAdd}
use Rattle.floyd_tree.specs.Plain.{Plain, At, Done, More}
use Rattle.floyd_tree_values.specs.BuiltIns.{Env, applied}
use Rattle.floyd_tree_values.specs.Data.{Val, number_in, value_in}
use Rattle.floyd_tree_values.specs.Means.{Defs, Means}
use Rattle.floyd_tree_values.specs.Values.{ptr_add}
use Rattle.floyd_tree_values.proofs.OneValue.{applies, no_data, one_value, split}
use Rattle.floyd_fieldpath.specs.Nested.{literal}
use Rattle.floyd_arith.proofs.Values.{Is}
use Rattle.floyd_symexpr_pointers.specs.PointerRows.{base, offset}
use Rattle.floyd_symexpr_laws.proofs.TermMeanings.{literal_is}

-- ---- an operand is its root moved by its offset

same_val : (v w : Value) → Val v ≡ Val w → v ≡ w
same_val v w e = cc

module _ (defs : Defs) (env : Env) where
  pub record IsMoved (t : Plain) (block place : ℕ) (v : Value) : Type 0 where
    pub by : ℤ
    pub offset : Is defs env (offset t) by
    pub value : v ≡ Vptr block (modulo (pos place +ℤ by) (2 ^ 64))

  unmoved : (place : ℕ) → place < 2 ^ 64 → modulo (pos place +ℤ pos 0) (2 ^ 64) ≡ place
  unmoved place low = ap (λ z. modulo z (2 ^ 64)) (nothing_more (pos place)) ∙ modulo-small place (2 ^ 64) low
    where
      nothing_more : (z : ℤ) → z +ℤ pos 0 ≡ z
      nothing_more z = omega (arith, ints)

  -- what is not moved has the offset 0
  itself : (t : Plain) (block place : ℕ) (v : Value) → place < 2 ^ 64 → offset t ≡ literal (pos 0) → Means defs env t (Val (Vptr block place)) → Means defs env t (Val v) → IsMoved t block place v
  itself t block place v low e m k =
      let same : Val v ≡ Val (Vptr block place) = one_value defs k (Val (Vptr block place)) m in
      let same_value : v ≡ Vptr block place = cc in
      record {
        by = pos 0;
        offset = subst (λ u. Is defs env u (pos 0)) (sym e) (literal_is defs env (pos 0));
        value = same_value ∙ ap (Vptr block) (sym (unmoved place low));
      }

  pub is_moved : (t : Plain) (block place : ℕ) (v : Value) → place < 2 ^ 64 → Means defs env (base t) (Val (Vptr block place)) → Means defs env t (Val v) → IsMoved t block place v
  is_moved (At (h.Operator PtrAdd) (More r (More a ts))) block place v low m k =
      let p = applies refl k in
      let q = split p.mean in
      let s = split q.rest in
      let root : q.datum ≡ Val (Vptr block place) = one_value defs q.first (Val (Vptr block place)) m in
      let d : Val v ≡ Val (ptr_add (value_in q.datum) (number_in s.datum)) = p.is ∙ ap (applied defs.structs env (h.Operator PtrAdd) p.sort) (q.is ∙ ap (λ ds. q.datum ∷ ds) s.is) in
      record {
        by = number_in s.datum;
        offset = record { datum = s.datum; means = s.first; number = refl };
        value = same_val v (ptr_add (value_in q.datum) (number_in s.datum)) d ∙ ap (λ x. ptr_add (value_in x) (number_in s.datum)) root;
      }
  is_moved (At (h.Operator PtrAdd) (More r Done)) block place v low m k =
      let p = applies refl k in
      let q = split p.mean in
      let root : q.datum ≡ Val (Vptr block place) = one_value defs q.first (Val (Vptr block place)) m in
      let d : Val v ≡ Val (ptr_add (value_in q.datum) (pos 0)) = p.is ∙ ap (applied defs.structs env (h.Operator PtrAdd) p.sort) (q.is ∙ ap (λ ds. q.datum ∷ ds) (no_data q.rest)) in
      record {
        by = pos 0;
        offset = literal_is defs env (pos 0);
        value = same_val v (ptr_add (value_in q.datum) (pos 0)) d ∙ ap (λ x. ptr_add (value_in x) (pos 0)) root;
      }
  is_moved (At (h.Operator PtrAdd) Done) block place v low m k = itself (At (h.Operator PtrAdd) Done) block place v low refl m k
  is_moved t block place v low m k = itself t block place v low refl m k

-- ---- two places of one object

or_right : (p q : Bool) → q ≡ true → p || q ≡ true
or_right true q e = refl
or_right false q e = e

-- an offset of an object, or its end, is weakly valid
pub weakly_valid : (look : Look) (block place count i : ℕ) → 1 ≤ count → i ≤ count → ((j : ℕ) → j < count → look.is_valid block (place + j) ≡ true) → is_weakly_valid look block (place + i) ≡ true
weakly_valid look block place count zero some h valid = ap (λ b. b || is_valid_below look block (place + 0)) (valid 0 (omega arith))
weakly_valid look block place count (suc i) some h valid =
    let next : suc (place + i) ≡ place + suc i = omega arith in
    subst (λ o. is_weakly_valid look block o ≡ true) next (or_right (look.is_valid block (suc (place + i))) (look.is_valid block (place + i)) (valid i (omega arith)))

same_test : (p q : Bool) → (p ≡ true → q ≡ true) → (q ≡ true → p ≡ true) → p ≡ q
same_test true q f g = sym (f refl)
same_test false true f g = g refl
same_test false false f g = refl

less_shifted : (place i j : ℕ) → nat_lt (place + i) (place + j) ≡ nat_lt i j
less_shifted place i j = same_test (nat_lt (place + i) (place + j)) (nat_lt i j) (λ e. grind (arith, nat_tests)) (λ e. grind (arith, nat_tests))

most_shifted : (place i j : ℕ) → nat_le (place + i) (place + j) ≡ nat_le i j
most_shifted place i j = same_test (nat_le (place + i) (place + j)) (nat_le i j) (λ e. grind (arith, nat_tests)) (λ e. grind (arith, nat_tests))

-- in an object that ends below 2 ^ 64 an offset is not cut
pub record IsInside (place count : ℕ) (z : ℤ) : Type 0 where
  pub number : ℕ
  pub is : z ≡ pos number
  pub within : number ≤ count
  pub place_is : modulo (pos place +ℤ z) (2 ^ 64) ≡ place + number

pub inside : (place count : ℕ) (z : ℤ) → place + count < 2 ^ 64 → int_le (pos 0) z ≡ true → int_le z (pos count) ≡ true → IsInside place count z
inside place count (pos i) room low high =
    let h : i ≤ count = omega (arith, ints, high) in
    let sum : pos place +ℤ pos i ≡ pos (place + i) = omega (arith, ints) in
    record {
      number = i;
      is = refl;
      within = h;
      place_is = ap (λ z. modulo z (2 ^ 64)) sum ∙ modulo-small (place + i) (2 ^ 64) (omega arith);
    }
inside place count (negsuc i) room low high = absurd (omega (arith, ints, low))

pub ordered : (look : Look) (order : ℕ → ℕ → Bool) (block o q : ℕ) → is_weakly_valid look block o ≡ true → is_weakly_valid look block q ≡ true → ordered_pointers look order (Vptr block o) (Vptr block q) ≡ Some (order o q)
ordered look order block o q h g =
    ap (λ t. if t then Some (order o q) else None) (ap₂ (λ s t. s && t) (eq-eqb block block refl) (ap₂ (λ s t. s && t) h g))

-- the order of two numbers, by an operator
abbrev pub order_by : IntOp → ℤ → ℤ → Option Bool
order_by c.Lt x y = Some (int_lt x y)
order_by c.Le x y = Some (int_le x y)
order_by c.Gt x y = Some (int_lt y x)
order_by c.Ge x y = Some (int_le y x)
order_by op x y = None

pub orders_agree : (look : Look) (op : IntOp) (block place i j : ℕ) (t : Bool) → is_weakly_valid look block (place + i) ≡ true → is_weakly_valid look block (place + j) ≡ true → order_by op (pos i) (pos j) ≡ Some t → compare_pointers look op (Vptr block (place + i)) (Vptr block (place + j)) ≡ Some (Vint (from_bool t))
orders_agree look c.Lt block place i j t h g e = ap truth (ordered look nat_lt block (place + i) (place + j) h g ∙ ap Some (less_shifted place i j) ∙ e)
orders_agree look c.Le block place i j t h g e = ap truth (ordered look nat_le block (place + i) (place + j) h g ∙ ap Some (most_shifted place i j) ∙ e)
orders_agree look c.Gt block place i j t h g e = ap truth (ordered look (λ o q. nat_lt q o) block (place + i) (place + j) h g ∙ ap Some (less_shifted place j i) ∙ e)
orders_agree look c.Ge block place i j t h g e = ap truth (ordered look (λ o q. nat_le q o) block (place + i) (place + j) h g ∙ ap Some (most_shifted place j i) ∙ e)
orders_agree look op block place i j t h g e = absurd cc
