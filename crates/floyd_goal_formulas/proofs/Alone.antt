-- What is true by itself, or given by a hypothesis, is so.
use Rattle.std.proofs.Common.{◌≡◌, ◌⊎◌, ℕ, ◌-◌, ◌^◌, Bool, true, false, ◌&&◌, ◌||◌, List, Option, Some, None, ℤ, pos, refl, sym, ap, subst, ◌∙◌, lit<, ⊎_elim, inl, inr, arith}
use Rattle.std.specs.Prelude.{int_le, nat_lt, length}
use Rattle.std.proofs.lemmas.Bool.{lt-ltb, le-leb}
use Rattle.floyd_int.specs.declared.kinds.IntKind.{IntKind}
use Rattle.floyd_int.specs.declared.kinds.IntKind.TheVariants.{I8, U8, I16, U16, I32, U32, I64, U64}
use Rattle.floyd_int.specs.declared.kinds.Value.{Value}
use Rattle.floyd_int.specs.declared.kinds.Value.TheVariants as v
use Rattle.floyd_int.specs.Kind as k
use Rattle.floyd_int.specs.Kind.{modulo}
use Rattle.floyd_int.proofs.Modulo.{modulo-below}
use Rattle.floyd_ctypes.specs.Has.{has_kind, has_pointer}
use Rattle.floyd_tree_sorts.specs.declared.heads.Head.TheVariants as h
use Rattle.floyd_tree_sorts.specs.declared.heads.Width.TheVariants.{Bits8, Bits16}
use Rattle.floyd_tree_sorts.specs.declared.operators.Operator.TheVariants as o
use Rattle.floyd_tree_sorts.specs.declared.shape.Shape.{Shape, Int, Pointer'}
use Rattle.floyd_tree_sorts.specs.Prints.{width_number}
use Rattle.floyd_tree_sorts.proofs.SortLemmas.{both_true}
use Rattle.floyd_tree.specs.Plain.{Plain, At, Done, More, head_of, kids_of}
use Rattle.floyd_tree_values.specs.BuiltIns.{Env, at_place}
use Rattle.floyd_tree_values.specs.Data.{Datum, Number, Val, number_in, items_in}
use Rattle.floyd_tree_values.specs.Means.{Defs, Means}
use Rattle.floyd_tree_values.specs.Numbers.{one_if, signed, unsigned, signed_kind}
use Rattle.floyd_tree_values.specs.Values.{vint}
use Rattle.floyd_tree_values.proofs.OneValue.{applies, split, one_value}
use Rattle.floyd_truth.specs.Types.{has_shape}
use Rattle.floyd_goal_formulas.specs.Drops.{Alone, Bounds, GivesSaid, are_ordered, greatest, is_bounded, is_made, is_narrow, is_null, is_of_kind, is_of_type, is_place, is_pointer_type, is_vint, is_vlong, least, narrow_in}
use Rattle.floyd_goal_formulas.specs.Known.{literal_of}
use Rattle.floyd_goal_formulas.specs.Said.{Saying, Equation, Inequality, Pointer, NotUndefined, OfType, one_of}
use Rattle.floyd_goal_formulas.proofs.Literals.{literal_means, number_is}
use Rattle.floyd_goal_formulas.proofs.Numbers.{within, below, ordered, signed_bits, unsigned_bits8, unsigned_bits16}
use Rattle.floyd_goal_formulas.proofs.Sayings.{SaidTrue, Values}

-- one of two tests
either : (a b : Bool) → (a || b) ≡ true → (a ≡ true) ⊎ (b ≡ true)
either true b e = inl refl
either false b e = inr e

not_negative : (n : ℕ) → int_le (pos 0) (pos n) ≡ true
not_negative n = le-leb 0 n (omega arith)

bit_from : (b : Bool) → int_le (pos 0) (one_if b) ≡ true
bit_from true = refl
bit_from false = refl

bit_to : (b : Bool) → int_le (one_if b) (pos 1) ≡ true
bit_to true = refl
bit_to false = refl

module _ (defs : Defs) (specs : List ℕ → Value → Bool) (env : Env) where
  least_value : (t : Plain) (l n : ℤ) → least (head_of t) ≡ Some l → Means defs env t (Number n) → int_le l n ≡ true
  least_value (At (h.Signed w) kids) l n e m =
      let p = applies refl m in
      let is : n ≡ signed w _ = number_is n _ p.is in
      let low : k.least (signed_kind w) ≡ l = cc in
      subst (λ x. int_le x n ≡ true) low (subst (λ x. int_le (k.least (signed_kind w)) x ≡ true) (sym is) (within w _).0)
  least_value (At (h.Unsigned w) kids) l n e m =
      let p = applies refl m in
      let is : n ≡ unsigned w (number_in (at_place 0 p.data')) = number_is n _ p.is in
      let low : pos 0 ≡ l = cc in
      subst (λ x. int_le x n ≡ true) low (subst (λ x. int_le (pos 0) x ≡ true) (sym is) (not_negative (modulo (number_in (at_place 0 p.data')) (2 ^ width_number w))))
  least_value (At (h.Operator o.Len) kids) l n e m =
      let p = applies refl m in
      let is = number_is n _ p.is in
      let low : pos 0 ≡ l = cc in
      subst (λ x. int_le x n ≡ true) low (subst (λ x. int_le (pos 0) x ≡ true) (sym is) (not_negative (length (items_in (at_place 0 p.data')))))
  least_value (At (h.Operator o.Eqz) kids) l n e m =
      let p = applies refl m in
      let is = number_is n _ p.is in
      let low : pos 0 ≡ l = cc in
      subst (λ x. int_le x n ≡ true) low (subst (λ x. int_le (pos 0) x ≡ true) (sym is) (bit_from _))
  least_value (At (h.Operator o.Ltz) kids) l n e m =
      let p = applies refl m in
      let is = number_is n _ p.is in
      let low : pos 0 ≡ l = cc in
      subst (λ x. int_le x n ≡ true) low (subst (λ x. int_le (pos 0) x ≡ true) (sym is) (bit_from _))
  least_value (At (h.Operator o.Lez) kids) l n e m =
      let p = applies refl m in
      let is = number_is n _ p.is in
      let low : pos 0 ≡ l = cc in
      subst (λ x. int_le x n ≡ true) low (subst (λ x. int_le (pos 0) x ≡ true) (sym is) (bit_from _))
  least_value (At (h.Operator o.Eqv) kids) l n e m =
      let p = applies refl m in
      let is = number_is n _ p.is in
      let low : pos 0 ≡ l = cc in
      subst (λ x. int_le x n ≡ true) low (subst (λ x. int_le (pos 0) x ≡ true) (sym is) (bit_from _))
  least_value (At (h.Operator operator) kids) l n e m = absurd cc
  least_value (At head kids) l n e m = absurd cc

  greatest_value : (t : Plain) (g n : ℤ) → greatest (head_of t) ≡ Some g → Means defs env t (Number n) → int_le n g ≡ true
  greatest_value (At (h.Signed w) kids) g n e m =
      let p = applies refl m in
      let is : n ≡ signed w _ = number_is n _ p.is in
      let high : k.greatest (signed_kind w) ≡ g = cc in
      subst (λ x. int_le n x ≡ true) high (subst (λ x. int_le x (k.greatest (signed_kind w)) ≡ true) (sym is) (within w _).1)
  greatest_value (At (h.Unsigned w) kids) g n e m =
      let p = applies refl m in
      let is : n ≡ unsigned w _ = number_is n _ p.is in
      let high : pos (2 ^ width_number w - 1) ≡ g = cc in
      subst (λ x. int_le n x ≡ true) high (subst (λ x. int_le x (pos (2 ^ width_number w - 1)) ≡ true) (sym is) (below w _))
  greatest_value (At (h.Operator o.Eqz) kids) g n e m =
      let p = applies refl m in
      let is = number_is n _ p.is in
      let high : pos 1 ≡ g = cc in
      subst (λ x. int_le n x ≡ true) high (subst (λ x. int_le x (pos 1) ≡ true) (sym is) (bit_to _))
  greatest_value (At (h.Operator o.Ltz) kids) g n e m =
      let p = applies refl m in
      let is = number_is n _ p.is in
      let high : pos 1 ≡ g = cc in
      subst (λ x. int_le n x ≡ true) high (subst (λ x. int_le x (pos 1) ≡ true) (sym is) (bit_to _))
  greatest_value (At (h.Operator o.Lez) kids) g n e m =
      let p = applies refl m in
      let is = number_is n _ p.is in
      let high : pos 1 ≡ g = cc in
      subst (λ x. int_le n x ≡ true) high (subst (λ x. int_le x (pos 1) ≡ true) (sym is) (bit_to _))
  greatest_value (At (h.Operator o.Eqv) kids) g n e m =
      let p = applies refl m in
      let is = number_is n _ p.is in
      let high : pos 1 ≡ g = cc in
      subst (λ x. int_le n x ≡ true) high (subst (λ x. int_le x (pos 1) ≡ true) (sym is) (bit_to _))
  greatest_value (At (h.Operator operator) kids) g n e m = absurd cc
  greatest_value (At head kids) g n e m = absurd cc

  record Ordered (a b : Option ℤ) : Type 0 where
    pub first : ℤ
    pub second : ℤ
    pub left : a ≡ Some first
    pub right : b ≡ Some second
    pub order : int_le first second ≡ true

  are : (a b : Option ℤ) → are_ordered a b ≡ true → Ordered a b
  are (Some m) (Some n) e = record { first = m; second = n; left = refl; right = refl; order = e }
  are (Some m) None e = absurd cc
  are None b e = absurd cc

  bounded : (a b : Plain) (m n : ℤ) → is_bounded a b ≡ true → Means defs env a (Number m) → Means defs env b (Number n) → int_le m n ≡ true
  bounded a b m n e f g =
      ⊎_elim (λ p.
      let q = are (literal_of a) (least (head_of b)) p in
      let same : m ≡ q.first = number_is m q.first (literal_means defs env a q.first (Number m) q.left f) in
      ordered m q.second n (subst (λ x. int_le x q.second ≡ true) (sym same) q.order) (least_value b q.second n q.right g))
      (λ p.
      let q = are (greatest (head_of a)) (literal_of b) p in
      let same : n ≡ q.second = number_is n q.second (literal_means defs env b q.second (Number n) q.right g) in
      ordered m q.first n (greatest_value a q.first m q.left f) (subst (λ x. int_le q.first x ≡ true) (sym same) q.order))
      (either (are_ordered (literal_of a) (least (head_of b))) (are_ordered (greatest (head_of a)) (literal_of b)) e)

  place_value : (t : Plain) (d : Datum) → is_place (head_of t) ≡ true → Means defs env t d → (block : ℕ) × (d ≡ Val (v.Vptr block 0))
  place_value (At (h.Gv x) kids) d e m = (env.global x, (applies refl m).is)
  place_value (At (h.Lv x) kids) d e m = (env.local x, (applies refl m).is)
  place_value (At head kids) d e m = absurd cc

  null_value : (t : Plain) (d : Datum) → is_null (head_of t) ≡ true → Means defs env t d → d ≡ Val (v.Vlong 0)
  null_value (At (h.Operator o.Nullval) kids) d e m = (applies refl m).is
  null_value (At (h.Operator operator) kids) d e m = absurd cc
  null_value (At head kids) d e m = absurd cc

  made_value : (t : Plain) (d : Datum) → is_made (head_of t) ≡ true → Means defs env t d → (w : Value) × (d ≡ Val w) × ¬ (w ≡ v.Vundef)
  made_value (At (h.Operator o.Vint) kids) d e m = (_, (applies refl m).is, λ x. absurd cc)
  made_value (At (h.Operator o.Vlong) kids) d e m = (_, (applies refl m).is, λ x. absurd cc)
  made_value (At (h.Operator o.Nullval) kids) d e m = (_, (applies refl m).is, λ x. absurd cc)
  made_value (At (h.Operator operator) kids) d e m = absurd cc
  made_value (At (h.Gv x) kids) d e m = (_, (applies refl m).is, λ x. absurd cc)
  made_value (At (h.Lv x) kids) d e m = (_, (applies refl m).is, λ x. absurd cc)
  made_value (At head kids) d e m = absurd cc

  record OfKind (kind : IntKind) (d : Datum) : Type 0 where
    pub value : Value
    pub is : d ≡ Val value
    pub has : has_kind kind value ≡ true

  vint_value : (kind : IntKind) (t : Plain) (d : Datum) → ((z : ℤ) → has_kind kind (vint z) ≡ true) → is_vint (head_of t) ≡ true → Means defs env t d → OfKind kind d
  vint_value kind (At (h.Operator o.Vint) kids) d has e m = record { value = _; is = (applies refl m).is; has = has _ }
  vint_value kind (At (h.Operator operator) kids) d has e m = absurd cc
  vint_value kind (At head kids) d has e m = absurd cc

  vlong_value : (kind : IntKind) (t : Plain) (d : Datum) → ((z : ℤ) → has_kind kind (v.Vlong (modulo z (2 ^ 64))) ≡ true) → is_vlong (head_of t) ≡ true → Means defs env t d → OfKind kind d
  vlong_value kind (At (h.Operator o.Vlong) kids) d has e m = record { value = _; is = (applies refl m).is; has = has _ }
  vlong_value kind (At (h.Operator operator) kids) d has e m = absurd cc
  vlong_value kind (At head kids) d has e m = absurd cc

  narrow_number : (kind : IntKind) (t : Plain) (z : Datum) → is_narrow kind (head_of t) ≡ true → Means defs env t z → (n : ℤ) × (z ≡ Number n) × (has_kind kind (vint n) ≡ true)
  narrow_number I8 (At (h.Signed Bits8) kids) z e m = let p = applies refl m in let x = number_in (at_place 0 p.data') in (signed Bits8 x, p.is, signed_bits 127 (signed Bits8 x) (omega arith) (within Bits8 x).0 (within Bits8 x).1)
  narrow_number I8 (At (h.Signed w) kids) z e m = absurd cc
  narrow_number I8 (At head kids) z e m = absurd cc
  narrow_number I16 (At (h.Signed Bits16) kids) z e m = let p = applies refl m in let x = number_in (at_place 0 p.data') in (signed Bits16 x, p.is, signed_bits 32767 (signed Bits16 x) (omega arith) (within Bits16 x).0 (within Bits16 x).1)
  narrow_number I16 (At (h.Signed w) kids) z e m = absurd cc
  narrow_number I16 (At head kids) z e m = absurd cc
  narrow_number U8 (At (h.Unsigned Bits8) kids) z e m = let p = applies refl m in let x = number_in (at_place 0 p.data') in (unsigned Bits8 x, p.is, unsigned_bits8 x)
  narrow_number U8 (At (h.Unsigned w) kids) z e m = absurd cc
  narrow_number U8 (At head kids) z e m = absurd cc
  narrow_number U16 (At (h.Unsigned Bits16) kids) z e m = let p = applies refl m in let x = number_in (at_place 0 p.data') in (unsigned Bits16 x, p.is, unsigned_bits16 x)
  narrow_number U16 (At (h.Unsigned w) kids) z e m = absurd cc
  narrow_number U16 (At head kids) z e m = absurd cc
  narrow_number kind t z e m = absurd cc

  narrow_value : (kind : IntKind) (t : Plain) (d : Datum) → is_vint (head_of t) ≡ true → narrow_in kind (one_of (kids_of t)) ≡ true → Means defs env t d → OfKind kind d
  narrow_value kind (At (h.Operator o.Vint) (More u Done)) d e g m =
      let p = applies refl m in
      let q = split p.mean in
      let n = narrow_number kind u q.datum g q.first in
      let at0 : at_place 0 p.data' ≡ Number n.0 = ap (at_place 0) q.is ∙ n.1 in
      record { value = vint n.0; is = p.is ∙ ap (λ x. Val (vint (number_in x))) at0; has = n.2 }
  narrow_value kind (At (h.Operator o.Vint) Done) d e g m = absurd cc
  narrow_value kind (At (h.Operator o.Vint) (More u (More w ts))) d e g m = absurd cc
  narrow_value kind (At (h.Operator operator) kids) d e g m = absurd cc
  narrow_value kind (At head kids) d e g m = absurd cc

  narrow_kind : (kind : IntKind) (t : Plain) (d : Datum) → (is_vint (head_of t) && narrow_in kind (one_of (kids_of t))) ≡ true → Means defs env t d → OfKind kind d
  narrow_kind kind t d e m = let p = both_true (is_vint (head_of t)) (narrow_in kind (one_of (kids_of t))) e in narrow_value kind t d p.0 p.1 m

  word : (z : ℤ) → nat_lt (modulo z (2 ^ 32)) (2 ^ 32) ≡ true
  word z = lt-ltb (modulo z (2 ^ 32)) (2 ^ 32) (modulo-below z (2 ^ 32) (lit< tt))

  long : (z : ℤ) → nat_lt (modulo z (2 ^ 64)) (2 ^ 64) ≡ true
  long z = lt-ltb (modulo z (2 ^ 64)) (2 ^ 64) (modulo-below z (2 ^ 64) (lit< tt))

  kind_value : (kind : IntKind) (t : Plain) (d : Datum) → is_of_kind kind t ≡ true → Means defs env t d → OfKind kind d
  kind_value I8 t d e m = narrow_kind I8 t d e m
  kind_value U8 t d e m = narrow_kind U8 t d e m
  kind_value I16 t d e m = narrow_kind I16 t d e m
  kind_value U16 t d e m = narrow_kind U16 t d e m
  kind_value I32 t d e m = vint_value I32 t d word e m
  kind_value U32 t d e m = vint_value U32 t d word e m
  kind_value I64 t d e m = vlong_value I64 t d long e m
  kind_value U64 t d e m = vlong_value U64 t d long e m

  type_value : (shape : Shape) (t : Plain) (d : Datum) → is_of_type shape t ≡ true → Means defs env t d → (w : Value) × Means defs env t (Val w) × (has_shape shape w ≡ true)
  type_value (Int kind) t d e m = let p = kind_value kind t d e m in (p.value, subst (Means defs env t) p.is m, p.has)
  type_value (Pointer' q target) t d e m =
      ⊎_elim (λ p. (v.Vlong 0, subst (Means defs env t) (null_value t d p m) m, refl))
      (λ p. let b = place_value t d p m in (v.Vptr b.0 0, subst (Means defs env t) b.1 m, refl))
      (either (is_null (head_of t)) (is_place (head_of t)) e)
  type_value shape t d e m = absurd cc

  -- what is true by itself is so, where the terms have values
  pub alone_said : (s : Saying) → Alone s → Values defs specs env s → SaidTrue defs specs env ⊥ s
  alone_said (Equation a b) a_is_b x = (x.0, x.1, subst (λ t. Means defs env t x.0) a_is_b x.1)
  alone_said (Inequality a b) e x = (x.0, x.1, x.2, x.3, bounded a b x.0 x.1 e x.2 x.3)
  alone_said (Pointer t) e x = let p = place_value t x.0 e x.1 in (p.0, 0, subst (Means defs env t) p.1 x.1)
  alone_said (NotUndefined t) e x = let p = made_value t x.0 e x.1 in (p.0, subst (Means defs env t) p.1 x.1, p.2)
  alone_said (OfType shape t) e x = type_value shape t x.0 e x.1
  alone_said s e x = absurd e

  pointer_shape : (shape : Shape) (w : Value) → is_pointer_type shape ≡ true → has_pointer w ≡ true → has_shape shape w ≡ true
  pointer_shape (Pointer' q target) w e p = p
  pointer_shape shape w e p = absurd cc

  no_kind : (kind : IntKind) → has_kind kind v.Vundef ≡ true → ⊥
  no_kind I8 e = absurd cc
  no_kind U8 e = absurd cc
  no_kind I16 e = absurd cc
  no_kind U16 e = absurd cc
  no_kind I32 e = absurd cc
  no_kind U32 e = absurd cc
  no_kind I64 e = absurd cc
  no_kind U64 e = absurd cc

  no_shape : (shape : Shape) → has_shape shape v.Vundef ≡ true → ⊥
  no_shape (Int kind) e = no_kind kind e
  no_shape (Pointer' q target) e = absurd cc
  no_shape shape e = absurd cc

  bounds_hold : (a b c d : Plain) → Bounds a b c d → (m n p q : ℤ) → Means defs env a (Number m) → Means defs env b (Number n) → int_le m n ≡ true → Means defs env c (Number p) → Means defs env d (Number q) → int_le p q ≡ true
  bounds_hold a b c d g m n p q ma mb le mc md = ⊎_elim below_case above_case g
    where
      below_case : (b ≡ d) × (literal_of d ≡ None) × (are_ordered (literal_of c) (literal_of a) ≡ true) → int_le p q ≡ true
      below_case x =
          let r = are (literal_of c) (literal_of a) x.2 in
          let p_is : p ≡ r.first = number_is p r.first (literal_means defs env c r.first (Number p) r.left mc) in
          let m_is : m ≡ r.second = number_is m r.second (literal_means defs env a r.second (Number m) r.right ma) in
          let n_is : n ≡ q = number_is n q (one_value defs mb (Number q) (subst (λ t. Means defs env t (Number q)) (sym x.0) md)) in
          let low : int_le p m ≡ true = subst (λ y. int_le y m ≡ true) (sym p_is) (subst (λ y. int_le r.first y ≡ true) (sym m_is) r.order) in
          ordered p m q low (subst (λ y. int_le m y ≡ true) n_is le)

      above_case : (a ≡ c) × (literal_of c ≡ None) × (are_ordered (literal_of b) (literal_of d) ≡ true) → int_le p q ≡ true
      above_case x =
          let r = are (literal_of b) (literal_of d) x.2 in
          let n_is : n ≡ r.first = number_is n r.first (literal_means defs env b r.first (Number n) r.left mb) in
          let q_is : q ≡ r.second = number_is q r.second (literal_means defs env d r.second (Number q) r.right md) in
          let m_is : m ≡ p = number_is m p (one_value defs ma (Number p) (subst (λ t. Means defs env t (Number p)) (sym x.0) mc)) in
          let high : int_le n q ≡ true = subst (λ y. int_le y q ≡ true) (sym n_is) (subst (λ y. int_le r.first y ≡ true) (sym q_is) r.order) in
          ordered p n q (subst (λ y. int_le y n ≡ true) m_is le) high

  -- what a hypothesis gives is so
  pub gives_said : (s t : Saying) → GivesSaid s t → SaidTrue defs specs env (Unit {0}) s → Values defs specs env t → SaidTrue defs specs env ⊥ t
  gives_said (Inequality a b) (Inequality c d) g x y = (y.0, y.1, y.2, y.3, bounds_hold a b c d g x.0 x.1 y.0 y.1 x.2 x.3 x.4 y.2 y.3)
  gives_said (Inequality a b) t g x y = absurd g
  gives_said (Pointer a) (OfType shape w) g x y = (v.Vptr x.0 x.1, subst (λ u. Means defs env u (Val (v.Vptr x.0 x.1))) g.0 x.2, pointer_shape shape (v.Vptr x.0 x.1) g.1 refl)
  gives_said (Pointer a) (NotUndefined w) g x y = (v.Vptr x.0 x.1, subst (λ u. Means defs env u (Val (v.Vptr x.0 x.1))) g x.2, λ e. absurd cc)
  gives_said (Pointer a) t g x y = absurd g
  gives_said (Equation a n) (OfType shape w) g x y =
      let is = null_value n x.0 g.1 x.2 in
      (v.Vlong 0, subst (λ u. Means defs env u (Val (v.Vlong 0))) g.0 (subst (Means defs env a) is x.1), pointer_shape shape (v.Vlong 0) g.2 refl)
  gives_said (Equation a n) (NotUndefined w) g x y =
      let is = null_value n x.0 g.1 x.2 in
      (v.Vlong 0, subst (λ u. Means defs env u (Val (v.Vlong 0))) g.0 (subst (Means defs env a) is x.1), λ e. absurd cc)
  gives_said (Equation a n) t g x y = absurd g
  gives_said (OfType shape a) (NotUndefined w) g x y = (x.0, subst (λ u. Means defs env u (Val x.0)) g x.1, λ e. no_shape shape (subst (λ z. has_shape shape z ≡ true) e x.2))
  gives_said (OfType shape a) t g x y = absurd g
  gives_said s t g x y = absurd g
