-- A linear term has the value of its term.
use Rattle.std.proofs.Common.{◌≡◌, ℤ, pos, negsuc, neg_ℤ, ◌+ℤ◌, ◌-ℤ◌, ◌*ℤ◌, List, [], ◌∷◌, map, Option, Some, None, refl, sym, ap, subst, ◌∙◌, inl, inr, arith}
use Rattle.std.proofs.lemmas.Bool.{cases_Bool}
use Rattle.std.proofs.lemmas.Int.{ints}
use Rattle.std.proofs.Math.IntN.{*ℤ-zero, *ℤ_comm}
use Rattle.floyd_tree_sorts.specs.declared.heads.Head.TheVariants.{Literal, Operator}
use Rattle.floyd_tree_sorts.specs.declared.operators.Operator.TheVariants.{Add, Sub, Mul}
use Rattle.floyd_tree.specs.Plain.{Plain, At, Done, More}
use Rattle.floyd_tree_values.specs.BuiltIns.{Env, applied}
use Rattle.floyd_tree_values.specs.Data.{Datum, number_in}
use Rattle.floyd_tree_values.specs.Means.{Defs, Means, AllMean}
use Rattle.floyd_tree_values.proofs.OneValue.{one_value, applies, split, no_data}
use Rattle.floyd_arith.specs.declared.unknowns.Linear.{Linear}
use Rattle.floyd_arith.specs.declared.unknowns.Unknown.{Unknown}
use Rattle.floyd_arith.specs.Linear.{times, with_unknown, with_unknowns, constant, alone, scaled, plus, minus, within, of_both, literal_of, product, linear_of}
use Rattle.floyd_arith.specs.Same.{same_term}
use Rattle.floyd_arith.proofs.LinearLemmas.{within_is, one_times}
use Rattle.floyd_arith.proofs.SameLemmas.{same_term_true}
use Rattle.floyd_arith.proofs.Sums.{sum_times, times_sum, product_times, minus_one_times}

module _ (defs : Defs) (env : Env) where
  -- the term means a datum of this number
  pub record Is (t : Plain) (x : ℤ) : Type 0 where
    pub datum : Datum
    pub means : Means defs env t datum
    pub number : number_in datum ≡ x

  one_number : (t : Plain) (x y : ℤ) → Is t x → Is t y → x ≡ y
  one_number t x y i j = sym i.number ∙ ap number_in (one_value defs i.means j.datum j.means) ∙ j.number

  -- the unknowns with their coefficients add up to this number
  abbrev pub AddUp : List Unknown → ℤ → Type 0
  AddUp [] z = z ≡ pos 0
  AddUp (u ∷ us) z = (x : ℤ) × (rest : ℤ) × Is u.term x × AddUp us rest × (z ≡ u.coefficient *ℤ x +ℤ rest)

  -- the linear term has this value
  pub record Has (a : Linear) (z : ℤ) : Type 0 where
    pub rest : ℤ
    pub unknowns : AddUp a.unknowns rest
    pub sum : z ≡ a.constant +ℤ rest

  first_last : (s c x : ℤ) → s ≡ pos 0 → s +ℤ c *ℤ x ≡ c *ℤ x +ℤ pos 0
  first_last s c x e = last s (c *ℤ x) e
    where
      last : (a b : ℤ) → a ≡ pos 0 → a +ℤ b ≡ b +ℤ pos 0
      last a b f = omega (arith, ints)

  on_top : (s c d x y r : ℤ) → y ≡ x → s ≡ d *ℤ y +ℤ r → s +ℤ c *ℤ x ≡ (d +ℤ c) *ℤ y +ℤ r
  on_top s c d x y r same e =
      let right : (d +ℤ c) *ℤ y ≡ d *ℤ y +ℤ c *ℤ x = sum_times d c y ∙ ap (λ z. d *ℤ y +ℤ c *ℤ z) same in
      moved s (c *ℤ x) (d *ℤ y) r ((d +ℤ c) *ℤ y) e right
    where
      moved : (s p q r t : ℤ) → s ≡ q +ℤ r → t ≡ q +ℤ p → s +ℤ p ≡ t +ℤ r
      moved s p q r t f g = omega (arith, ints)

  behind : (s p q r : ℤ) → s ≡ q +ℤ r → s +ℤ p ≡ q +ℤ (r +ℤ p)
  behind s p q r e = omega (arith, ints)

  add_unknown : (us : List Unknown) (u : Unknown) (s x : ℤ) → AddUp us s → Is u.term x → AddUp (with_unknown us u) (s +ℤ u.coefficient *ℤ x)
  add_unknown [] u s x a i = (x, pos 0, i, refl, first_last s u.coefficient x a)
  add_unknown (v ∷ us) u s x (y, r, j, more, e) i = elim (cases_Bool (same_term v.term u.term)) [
    | inl h ↦ rw h (
        let same : y ≡ x = one_number v.term y x j (subst (λ t. Is t x) (sym (same_term_true v.term u.term h)) i) in
        (y, r, j, more, on_top s u.coefficient v.coefficient x y r same e))
    | inr h ↦ rw h (y, r +ℤ u.coefficient *ℤ x, j, add_unknown us u r x more i, behind s (u.coefficient *ℤ x) (v.coefficient *ℤ y) r e)
  ]

  add_unknowns : (us vs : List Unknown) (s r : ℤ) → AddUp us s → AddUp vs r → AddUp (with_unknowns us vs) (s +ℤ r)
  add_unknowns us [] s r a b = subst (AddUp us) (ended s r b) a
    where
      ended : (s r : ℤ) → r ≡ pos 0 → s ≡ s +ℤ r
      ended s r e = omega (arith, ints)
  add_unknowns us (v ∷ vs) s r a (x, q, i, more, e) =
      subst (AddUp (with_unknowns (with_unknown us v) vs)) (sym (behind_first s r (v.coefficient *ℤ x) q e)) (add_unknowns (with_unknown us v) vs (s +ℤ v.coefficient *ℤ x) q (add_unknown us v s x a i) more)
    where
      behind_first : (s r p q : ℤ) → r ≡ p +ℤ q → s +ℤ r ≡ (s +ℤ p) +ℤ q
      behind_first s r p q f = omega (arith, ints)

  scale_unknowns : (k : ℤ) (us : List Unknown) (s : ℤ) → AddUp us s → AddUp (map (times k) us) (k *ℤ s)
  scale_unknowns k [] s a = ap (λ z. k *ℤ z) a ∙ *ℤ-zero k
  scale_unknowns k (u ∷ us) s (x, r, i, more, e) =
      (x, k *ℤ r, i, scale_unknowns k us r more, ap (λ z. k *ℤ z) e ∙ times_sum k (u.coefficient *ℤ x) r ∙ ap (λ z. z +ℤ k *ℤ r) (sym (product_times k u.coefficient x)))

  pub has_plus : (a b : Linear) (x y : ℤ) → Has a x → Has b y → Has (plus a b) (x +ℤ y)
  has_plus a b x y h i = record {
    rest = h.rest +ℤ i.rest;
    unknowns = add_unknowns a.unknowns b.unknowns h.rest i.rest h.unknowns i.unknowns;
    sum = joined x y a.constant b.constant h.rest i.rest h.sum i.sum;
  }
    where
      joined : (x y a b r s : ℤ) → x ≡ a +ℤ r → y ≡ b +ℤ s → x +ℤ y ≡ (a +ℤ b) +ℤ (r +ℤ s)
      joined x y a b r s e f = omega (arith, ints)

  pub has_scaled : (k : ℤ) (a : Linear) (x : ℤ) → Has a x → Has (scaled k a) (k *ℤ x)
  has_scaled k a x h = record {
    rest = k *ℤ h.rest;
    unknowns = scale_unknowns k a.unknowns h.rest h.unknowns;
    sum = ap (λ z. k *ℤ z) h.sum ∙ times_sum k a.constant h.rest;
  }

  has_minus : (a b : Linear) (x y : ℤ) → Has a x → Has b y → Has (minus a b) (x -ℤ y)
  has_minus a b x y h i = subst (Has (minus a b)) (ap (λ z. x +ℤ z) (minus_one_times y) ∙ less x y) (has_plus a (scaled (negsuc 0) b) x (negsuc 0 *ℤ y) h (has_scaled (negsuc 0) b y i))
    where
      less : (a b : ℤ) → a +ℤ neg_ℤ b ≡ a -ℤ b
      less a b = omega (arith, ints)

  pub has_constant : (z : ℤ) → Has (constant z) z
  has_constant z = record { rest = pos 0; unknowns = refl; sum = same z }
    where
      same : (a : ℤ) → a ≡ a +ℤ pos 0
      same a = omega (arith, ints)

  has_alone : (t : Plain) (x : ℤ) → Is t x → Has (alone t) x
  has_alone t x i = record { rest = x; unknowns = (x, pos 0, i, refl, once x); sum = same x }
    where
      once : (a : ℤ) → a ≡ pos 1 *ℤ a +ℤ pos 0
      once a = same_right a ∙ ap (λ z. z +ℤ pos 0) (sym (one_times a))
        where
          same_right : (a : ℤ) → a ≡ a +ℤ pos 0
          same_right a = omega (arith, ints)

      same : (a : ℤ) → a ≡ pos 0 +ℤ a
      same a = omega (arith, ints)

  -- where there is a linear term, it has this value
  abbrev pub Gives : Option Linear → ℤ → Type 0
  Gives o x = (a : Linear) → o ≡ Some a → Has a x

  pub gives_within : (a : Linear) (x : ℤ) → Has a x → Gives (within a) x
  gives_within a x h l e = subst (λ b. Has b x) (within_is a l e).0 h

  gives_both : (f : Linear → Linear → Linear) (o p : Option Linear) (x y z : ℤ) → ((a b : Linear) → Has a x → Has b y → Has (f a b) z) → Gives o x → Gives p y → Gives (of_both f o p) z
  gives_both f (Some a) (Some b) x y z from g h l e = gives_within (f a b) z (from a b (g a refl) (h b refl)) l e
  gives_both f (Some a) None x y z from g h l e = absurd cc
  gives_both f None p x y z from g h l e = absurd cc

  pub gives_minus : (a b : Plain) (x y : ℤ) → Gives (linear_of a) x → Gives (linear_of b) y → Gives (of_both minus (linear_of a) (linear_of b)) (x -ℤ y)
  gives_minus a b x y g h = gives_both minus (linear_of a) (linear_of b) x y (x -ℤ y) (λ l m i j. has_minus l m x y i j) g h

  gives_alone : (t : Plain) (x : ℤ) → Is t x → Gives (Some (alone t)) x
  gives_alone t x i l e = let same : alone t ≡ l = cc in subst (λ b. Has b x) same (has_alone t x i)

  literal_is : (t : Plain) (k x : ℤ) → literal_of t ≡ Some k → Is t x → x ≡ k
  literal_is (At (Literal z) kids) k x e i =
      let p = applies refl i.means in
      let same : z ≡ k = cc in
      sym i.number ∙ ap number_in p.is ∙ same
  literal_is t k x e i = absurd cc

  gives_product : (t a b : Plain) (j k : Option ℤ) (x y z : ℤ) → literal_of a ≡ j → literal_of b ≡ k → Is a x → Is b y → Is t z → z ≡ x *ℤ y → Gives (linear_of a) x → Gives (linear_of b) y → Gives (product t j k (linear_of a) (linear_of b)) z
  gives_product t a b (Some j) k x y z e f i i' i'' m g h =
      let same : z ≡ j *ℤ y = m ∙ ap (λ w. w *ℤ y) (literal_is a j x e i) in
      gives_both (λ l m. scaled j m) (linear_of a) (linear_of b) x y z (λ l m p q. subst (Has (scaled j m)) (sym same) (has_scaled j m y q)) g h
  gives_product t a b None (Some k) x y z e f i i' i'' m g h =
      let same : z ≡ k *ℤ x = m ∙ *ℤ_comm x y ∙ ap (λ w. w *ℤ x) (literal_is b k y f i') in
      gives_both (λ l m. scaled k m) (linear_of b) (linear_of a) y x z (λ l m p q. subst (Has (scaled k m)) (sym same) (has_scaled k m x q)) h g
  gives_product t a b None None x y z e f i i' i'' m g h = gives_alone t z i''

  -- the data of two kids
  record Two (a b : Plain) (ds : List Datum) : Type 0 where
    first : Datum
    second : Datum
    left : Means defs env a first
    right : Means defs env b second
    is : ds ≡ first ∷ second ∷ []

  two : (a b : Plain) (ds : List Datum) → AllMean defs env (More a (More b Done)) ds → Two a b ds
  two a b ds k =
      let p = split k in
      let q = split p.rest in
      record { first = p.datum; second = q.datum; left = p.first; right = q.first; is = p.is ∙ ap (λ es. p.datum ∷ es) (q.is ∙ ap (λ es. q.datum ∷ es) (no_data q.rest)) }

  -- what a term means is what its linear term gives
  pub gives_linear : (t : Plain) (x : ℤ) → Is t x → Gives (linear_of t) x
  gives_linear (At (Literal z) kids) x i = subst (Gives (within (constant z))) (sym (literal_is (At (Literal z) kids) z x refl i)) (gives_within (constant z) z (has_constant z))
  gives_linear (At (Operator Add) (More a (More b Done))) x i =
      let p = applies refl i.means in
      let q = two a b p.data' p.mean in
      let m = number_in q.first in
      let n = number_in q.second in
      let sum : x ≡ m +ℤ n = sym i.number ∙ ap number_in (p.is ∙ ap (λ ds. applied defs.structs env (Operator Add) p.sort ds) q.is) in
      subst (Gives (of_both plus (linear_of a) (linear_of b))) (sym sum) (gives_both plus (linear_of a) (linear_of b) m n (m +ℤ n) (λ l k h j. has_plus l k m n h j) (gives_linear a m (record { datum = q.first; means = q.left; number = refl })) (gives_linear b n (record { datum = q.second; means = q.right; number = refl })))
  gives_linear (At (Operator Sub) (More a (More b Done))) x i =
      let p = applies refl i.means in
      let q = two a b p.data' p.mean in
      let m = number_in q.first in
      let n = number_in q.second in
      let sum : x ≡ m -ℤ n = sym i.number ∙ ap number_in (p.is ∙ ap (λ ds. applied defs.structs env (Operator Sub) p.sort ds) q.is) in
      subst (Gives (of_both minus (linear_of a) (linear_of b))) (sym sum) (gives_minus a b m n (gives_linear a m (record { datum = q.first; means = q.left; number = refl })) (gives_linear b n (record { datum = q.second; means = q.right; number = refl })))
  gives_linear (At (Operator Mul) (More a (More b Done))) x i =
      let p = applies refl i.means in
      let q = two a b p.data' p.mean in
      let m = number_in q.first in
      let n = number_in q.second in
      let sum : x ≡ m *ℤ n = sym i.number ∙ ap number_in (p.is ∙ ap (λ ds. applied defs.structs env (Operator Mul) p.sort ds) q.is) in
      let ia : Is a m = record { datum = q.first; means = q.left; number = refl } in
      let ib : Is b n = record { datum = q.second; means = q.right; number = refl } in
      gives_product (At (Operator Mul) (More a (More b Done))) a b (literal_of a) (literal_of b) m n x refl refl ia ib i sum (gives_linear a m ia) (gives_linear b n ib)
  gives_linear t x i = gives_alone t x i
