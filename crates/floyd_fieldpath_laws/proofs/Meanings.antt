-- What the terms that are written along a path mean.
use Rattle.std.proofs.Common.{◌≡◌, ℕ, ◌<◌, ◌^◌, Bool, true, false, ℤ, pos, ◌+ℤ◌, ◌*ℤ◌, Option, Some, None, Result, Ok, Err, is_some, refl, sym, ◌∙◌, ap, subst, arith}
use Rattle.std.specs.Prelude.{if◌then◌else◌}
use Rattle.std.specs.Option.{option_map_or}
use Rattle.std.specs.Ordering.{int_eq}
use Rattle.std.proofs.lemmas.Int.{ints}
use Rattle.floyd_text.specs.declared.refusal.No.{No}
use Rattle.floyd_int.specs.declared.kinds.Value.TheVariants.{Vptr}
use Rattle.floyd_int.specs.Kind.{modulo}
use Rattle.floyd_int.proofs.Modulo.{modulo-small}
use Rattle.floyd_tree_sorts.specs.declared.heads.Head.TheVariants as h
use Rattle.floyd_tree_sorts.specs.declared.operators.Operator.{Operator}
use Rattle.floyd_tree_sorts.specs.declared.operators.Operator.TheVariants.{Add, Mul, PtrAdd}
use Rattle.floyd_tree_sorts.specs.declared.sorts.Sort.{Sort, Z, Val as ValSort}
use Rattle.floyd_tree.specs.Made.{fits}
use Rattle.floyd_tree.specs.Plain.{Plain, At}
use Rattle.floyd_tree.specs.WellSorted.{sort_of}
use Rattle.floyd_tree_values.specs.BuiltIns.{Env, operator_value}
use Rattle.floyd_tree_values.specs.Data.{Datum, Number, Val}
use Rattle.floyd_tree_values.specs.Defaults.{undefined}
use Rattle.floyd_tree_values.specs.Means.{Defs, Means, built_in, none, more}
use Rattle.floyd_tree_values.specs.Values.{ptr_add}
use Rattle.floyd_tree_values.proofs.OneValue.{applies}
use Rattle.floyd_fieldpath.specs.Nested.{literal}
use Rattle.floyd_fieldpath.specs.Projections.{one}
use Rattle.floyd_fieldpath.specs.Sums.{is_small, is_zero, literal_in, literal_or, moved, of_both, plus, small, times, two}
use Rattle.floyd_fieldpath.specs.Updates.{three}
use Rattle.floyd_fieldpath.specs.Written.{ill_sorted, on_ok, too_large, written}
use Rattle.floyd_fieldpath_laws.specs.Conditions.{IsNumber}
use Rattle.floyd_fieldpath_laws.proofs.TermSorts.{two_sort}

-- ---- answers

pub written_is : (t u : Plain) → written t ≡ Ok u → t ≡ u
written_is t u e = by (is_some (sort_of t)) (fits t) e
  where
    by : (a b : Bool) → (if a then (if b then Ok t else Err too_large) else Err ill_sorted) ≡ Ok u → t ≡ u
    by true true f = cc
    by true false f = absurd cc
    by false b f = absurd cc

pub on_ok_is : {A B : Type 0} (d : Result A No) (f : A → Result B No) (b : B) → on_ok d f ≡ Ok b → (a : A) × (d ≡ Ok a) × (f a ≡ Ok b)
on_ok_is (Ok a) f b e = (a, refl, e)
on_ok_is (Err refusal) f b e = absurd cc

module _ (defs : Defs) (env : Env) where
  pub written_means : (t u : Plain) (d : Datum) → written t ≡ Ok u → Means defs env t d → Means defs env u d
  written_means t u d e m = subst (λ x. Means defs env x d) (written_is t u e) m

  -- ---- operators

  pub one_means : (operator : Operator) (s : Sort) (v : Plain) (a : Datum) → sort_of (one operator v) ≡ Some s → Means defs env v a → Means defs env (one operator v) (operator_value operator s a undefined undefined)
  one_means operator s v a e m = built_in refl e (more m none)

  pub two_mean : (operator : Operator) (s : Sort) (v w : Plain) (a b : Datum) → sort_of (two operator v w) ≡ Some s → Means defs env v a → Means defs env w b → Means defs env (two operator v w) (operator_value operator s a b undefined)
  two_mean operator s v w a b e m n = built_in refl e (more m (more n none))

  pub three_mean : (operator : Operator) (s : Sort) (v w x : Plain) (a b c : Datum) → sort_of (three operator v w x) ≡ Some s → Means defs env v a → Means defs env w b → Means defs env x c → Means defs env (three operator v w x) (operator_value operator s a b c)
  three_mean operator s v w x a b c e m n k = built_in refl e (more m (more n (more k none)))

  -- ---- numbers

  pub literal_means : (z : ℤ) → Means defs env (literal z) (Number z)
  literal_means z = built_in refl refl none

  pub literal_value : (t : Plain) (z x : ℤ) → literal_in t ≡ Some z → Means defs env t (Number x) → z ≡ x
  literal_value (At (h.Literal y) kids) z x e m =
      let p = applies refl m in
      let same : Number x ≡ Number y = p.is in
      cc
  literal_value (At head kids) z x e m = absurd cc

  folded : (o p : Option ℤ) (f : ℤ → ℤ → ℤ) (t c : Plain) (x y : ℤ) → ((z : ℤ) → o ≡ Some z → z ≡ x) → ((z : ℤ) → p ≡ Some z → z ≡ y) → Means defs env t (Number (f x y)) →
      literal_or (small (of_both f o p)) t ≡ Ok c → Means defs env c (Number (f x y))
  folded (Some a) (Some b) f t c x y g k m e = by (is_small (f a b)) e
    where
      by : (s : Bool) → literal_or (if s then Some (f a b) else None) t ≡ Ok c → Means defs env c (Number (f x y))
      by true q =
          let first : a ≡ x = g a refl in
          let second : b ≡ y = k b refl in
          let same : literal (f a b) ≡ c = cc in
          subst (λ u. Means defs env u (Number (f x y))) same
          (subst (λ u. Means defs env (literal (f u b)) (Number (f x y))) (sym first) (subst (λ u. Means defs env (literal (f x u)) (Number (f x y))) (sym second) (literal_means (f x y))))
      by false q = written_means t c (Number (f x y)) q m
  folded (Some a) None f t c x y g k m e = written_means t c (Number (f x y)) e m
  folded None p f t c x y g k m e = written_means t c (Number (f x y)) e m

  pub plus_means : (a b c : Plain) (x y : ℤ) → IsNumber a → IsNumber b → Means defs env a (Number x) → Means defs env b (Number y) → plus a b ≡ Ok c → Means defs env c (Number (x +ℤ y))
  plus_means a b c x y e f m n p =
      folded (literal_in a) (literal_in b) (λ i j. i +ℤ j) (two Add a b) c x y (λ z q. literal_value a z x q m) (λ z q. literal_value b z y q n)
      (two_mean Add Z a b (Number x) (Number y) (two_sort Add Z Z Z a b e f refl) m n) p

  pub times_means : (a b c : Plain) (x y : ℤ) → IsNumber a → IsNumber b → Means defs env a (Number x) → Means defs env b (Number y) → times a b ≡ Ok c → Means defs env c (Number (x *ℤ y))
  times_means a b c x y e f m n p =
      folded (literal_in a) (literal_in b) (λ i j. i *ℤ j) (two Mul a b) c x y (λ z q. literal_value a z x q m) (λ z q. literal_value b z y q n)
      (two_mean Mul Z a b (Number x) (Number y) (two_sort Mul Z Z Z a b e f refl) m n) p

  -- ---- pointers

  zero_literal : (o : Option ℤ) → option_map_or (λ z. int_eq z (pos 0)) o false ≡ true → o ≡ Some (pos 0)
  zero_literal (Some z) e = let same : z ≡ pos 0 = grind (arith, e) in ap Some same
  zero_literal None e = absurd cc

  pub moved_means : (p n c : Plain) (block offset : ℕ) (z : ℤ) → sort_of p ≡ Some ValSort → IsNumber n → Means defs env p (Val (Vptr block offset)) → offset < 2 ^ 64 → Means defs env n (Number z) →
      moved p n ≡ Ok c → Means defs env c (Val (ptr_add (Vptr block offset) z))
  moved_means p n c block offset z e f m low k q = by (is_zero n) refl q
    where
      by : (b : Bool) → is_zero n ≡ b → (if b then Ok p else written (two PtrAdd p n)) ≡ Ok c → Means defs env c (Val (ptr_add (Vptr block offset) z))
      by true g r =
          let nought : pos 0 ≡ z = literal_value n (pos 0) z (zero_literal (literal_in n) g) k in
          let same : p ≡ c = cc in
          let here : pos offset +ℤ pos 0 ≡ pos offset = omega (arith, ints) in
          let still : modulo (pos offset +ℤ pos 0) (2 ^ 64) ≡ offset = ap (λ i. modulo i (2 ^ 64)) here ∙ modulo-small offset (2 ^ 64) low in
          subst (λ x. Means defs env x (Val (ptr_add (Vptr block offset) z))) same
          (subst (λ x. Means defs env p (Val (ptr_add (Vptr block offset) x))) nought (subst (λ x. Means defs env p (Val (Vptr block x))) (sym still) m))
      by false g r = written_means (two PtrAdd p n) c (Val (ptr_add (Vptr block offset) z)) r (two_mean PtrAdd ValSort p n (Val (Vptr block offset)) (Number z) (two_sort PtrAdd ValSort ValSort Z p n e f refl) m k)
