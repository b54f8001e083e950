-- Which of the formulas of two branches is true.
use Rattle.std.proofs.Common.{◌≡◌, ℕ, Bool, true, false, not, ℤ, pos, ◌+ℤ◌, ◌-ℤ◌, List, [], ◌∷◌, Option, Some, None, Result, Ok, refl, sym, ap, subst, ◌∙◌, true≢false, if◌then◌else◌, arith}
use Rattle.std.specs.Prelude.{int_le, int_lt}
use Rattle.std.specs.Ordering.{int_eq}
use Rattle.std.proofs.lemmas.Bool.Decides.{Decides-int_eq}
use Rattle.std.proofs.lemmas.Int.{ints}
use Rattle.floyd_text.specs.declared.refusal.No.{No}
use Rattle.floyd_int.specs.declared.kinds.IntOp.{IntOp}
use Rattle.floyd_int.specs.declared.kinds.IntOp.TheVariants as c
use Rattle.floyd_int.specs.declared.kinds.Value.{Value}
use Rattle.floyd_int.specs.Operation.{is_comparison}
use Rattle.floyd_tree_sorts.specs.declared.operators.Operator.TheVariants.{Add, Eqz, Ltz, Lez, Sub}
use Rattle.floyd_tree.specs.Formulas.{PlainFormula}
use Rattle.floyd_tree.specs.Plain.{Plain, Done, More}
use Rattle.floyd_tree_values.specs.BuiltIns.{Env, at_place}
use Rattle.floyd_tree_values.specs.Data.{Datum, Number, number_in}
use Rattle.floyd_tree_values.specs.Means.{AllMean, Defs, Means, more, none}
use Rattle.floyd_tree_values.specs.Numbers.{one_if}
use Rattle.floyd_tree_values.proofs.OneValue.{applies, one_value}
use Rattle.floyd_truth.specs.Truth.{Truth}
use Rattle.floyd_arith.proofs.Values.{Is}
use Rattle.floyd_fieldpath.specs.Nested.{literal}
use Rattle.floyd_fieldpath.specs.Sums.{literal_in, literal_or, of_both, plus, small, two}
use Rattle.floyd_fieldpath.specs.Written.{on_ok}
use Rattle.floyd_folding.specs.Folding.{folded}
use Rattle.floyd_symexpr_rows.specs.Formulas.{at_most, different, equal, said}
use Rattle.floyd_symexpr_rows.specs.Rows.{compared}
use Rattle.floyd_symexpr_rows.proofs.PartLemmas.{said_same}
use Rattle.floyd_symexpr_laws.proofs.NumberRows.{plus_folds}
use Rattle.floyd_symexpr_laws.proofs.TermMeanings.{folded_is, is_written, literal_is, literal_means, ok_parts}
use Rattle.floyd_conditions.specs.declared.branches.Branches.{Branches}
use Rattle.floyd_conditions.specs.Conditions.{both_branches, equality, exchanged, less, of_numbers, swapped}

-- ---- tests on numbers

at_least : (x y : ℤ) → int_lt x y ≡ true → int_le (x +ℤ pos 1) y ≡ true
at_least x y h = by (int_le (x +ℤ pos 1) y) refl
  where
    by : (t : Bool) → int_le (x +ℤ pos 1) y ≡ t → t ≡ true
    by true e = refl
    by false e = absurd (omega (arith, ints, h, e))

no_less : (x y : ℤ) → int_lt x y ≡ false → int_le y x ≡ true
no_less x y h = by (int_le y x) refl
  where
    by : (t : Bool) → int_le y x ≡ t → t ≡ true
    by true e = refl
    by false e = absurd (omega (arith, ints, h, e))

not_less : (x y : ℤ) → not (int_lt y x) ≡ int_le x y
not_less x y = by (int_lt y x) refl (int_le x y) refl
  where
    by : (s : Bool) → int_lt y x ≡ s → (t : Bool) → int_le x y ≡ t → not s ≡ t
    by true e true f = absurd (omega (arith, ints, e, f))
    by true e false f = refl
    by false e true f = refl
    by false e false f = absurd (omega (arith, ints, e, f))

one_less : (t : Bool) → pos 1 -ℤ one_if t ≡ one_if (not t)
one_less true = refl
one_less false = refl

-- ---- both branches

both_are : (f g : PlainFormula) (b : Branches) → both_branches f g ≡ Ok b → (b.met ≡ f) × (b.unmet ≡ g)
both_are f g b e =
    let p = ok_parts (said f) (λ met. on_ok (said g) (λ unmet. Ok (record { met = met; unmet = unmet }))) b e in
    let q = ok_parts (said g) (λ unmet. Ok (record { met = p.0; unmet = unmet })) b p.2 in
    let same : ◌≡◌ {A = Branches} (record { met = p.0; unmet = q.0 }) b = cc in
    (sym (ap (λ (w : Branches). w.met) same) ∙ said_same f p.0 p.1, sym (ap (λ (w : Branches). w.unmet) same) ∙ said_same g q.0 q.1)

module _ (defs : Defs) (specs : List ℕ → Value → Bool) (env : Env) where
  abbrev T : PlainFormula → Type 0
  T f = Truth defs specs env f

  -- the formula of the branch that is taken
  abbrev pub Taken : Bool → Branches → Type 0
  Taken t b = T (if t then b.met else b.unmet)

  taken : (t : Bool) (f g : PlainFormula) (b : Branches) → (t ≡ true → T f) → (t ≡ false → T g) → both_branches f g ≡ Ok b → Taken t b
  taken true f g b h k e = subst T (sym (both_are f g b e).0) (h refl)
  taken false f g b h k e = subst T (sym (both_are f g b e).1) (k refl)

  both_data : {a b : Plain} {d e : Datum} → AllMean defs env (More a (More b Done)) (d ∷ e ∷ []) → Means defs env a d × Means defs env b e
  both_data (more m (more k none)) = (m, k)

  -- two terms, and whether their data are the same
  pub equality_taken : (u v : Plain) (d e : Datum) (t : Bool) (b : Branches) → Means defs env u d → Means defs env v e → (t ≡ true → d ≡ e) → (t ≡ false → d ≡ e → ⊥) → equality u v ≡ Ok b → Taken t b
  equality_taken u v d e t b m k same differ q =
      taken t (equal u v) (different u v) b (λ i. (d, more m (more (subst (λ w. Means defs env v w) (sym (same i)) k) none)))
      (λ i h. differ i (let p = both_data h.1 in one_value defs m h.0 p.0 ∙ sym (one_value defs k h.0 p.1))) q

  flip : (t : Bool) (b : Branches) → Taken t b → Taken (not t) (exchanged b)
  flip true b h = h
  flip false b h = h

  pub swapped_taken : (d : Result Branches No) (t : Bool) (b : Branches) → ((a : Branches) → d ≡ Ok a → Taken t a) → swapped d ≡ Ok b → Taken (not t) b
  swapped_taken d t b h e =
      let p = ok_parts d (λ a. Ok (exchanged a)) b e in
      let same : ◌≡◌ {A = Branches} (exchanged p.0) b = let i = p.2 in cc in
      subst (Taken (not t)) same (flip t p.0 (h p.0 p.1))

  -- ---- numbers

  number_is : (a : Plain) (x : ℤ) → Means defs env a (Number x) → Is defs env a x
  number_is a x m = record { datum = Number x; means = m; number = refl }

  -- a sum means a number
  a_number : (o : Option ℤ) (a b k : Plain) (z : ℤ) → literal_or o (two Add a b) ≡ Ok k → Is defs env k z → (w : ℤ) × Means defs env k (Number w)
  a_number (Some w) a b k z e i = let same : k ≡ literal w = cc in (w, subst (λ t. Means defs env t (Number w)) (sym same) (literal_means defs env w))
  a_number None a b k z e i =
      let w = is_written (two Add a b) k e in
      let p = applies refl (subst (λ t. Means defs env t i.datum) w.same i.means) in
      let number : i.datum ≡ Number (number_in (at_place 0 p.data') +ℤ number_in (at_place 1 p.data')) = p.is in
      (number_in (at_place 0 p.data') +ℤ number_in (at_place 1 p.data'), subst (λ d. Means defs env k d) number i.means)

  one_more : (a k : Plain) (x : ℤ) → plus a (literal (pos 1)) ≡ Ok k → Means defs env a (Number x) → Means defs env k (Number (x +ℤ pos 1))
  one_more a k x e m =
      let i = folded_is defs env Add a (literal (pos 1)) k x (pos 1) (x +ℤ pos 1) (sym (plus_folds a (literal (pos 1))) ∙ e) (number_is a x m) (literal_is defs env (pos 1)) refl in
      let w = a_number (small (of_both (λ p q. p +ℤ q) (literal_in a) (literal_in (literal (pos 1))))) a (literal (pos 1)) k (x +ℤ pos 1) e i in
      let same : w.0 ≡ x +ℤ pos 1 = sym (ap number_in (one_value defs i.means (Number w.0) w.1)) ∙ i.number in
      subst (λ z. Means defs env k (Number z)) same w.1

  less_taken : (a b : Plain) (x y : ℤ) (r : Branches) → Means defs env a (Number x) → Means defs env b (Number y) → less a b ≡ Ok r → Taken (int_lt x y) r
  less_taken a b x y r m k e =
      let p = ok_parts (plus a (literal (pos 1))) (λ up. both_branches (at_most up b) (at_most b a)) r e in
      let s = one_more a p.0 x p.1 m in
      taken (int_lt x y) (at_most p.0 b) (at_most b a) r (λ i. (x +ℤ pos 1, y, more s (more k none), at_least x y i)) (λ i. (y, x, more k (more m none), no_less x y i)) p.2

  numbers_equal : (a b : Plain) (x y : ℤ) (r : Branches) → Means defs env a (Number x) → Means defs env b (Number y) → equality a b ≡ Ok r → Taken (int_eq x y) r
  numbers_equal a b x y r m k e =
      equality_taken a b (Number x) (Number y) (int_eq x y) r m k (λ i. ap Number ((Decides-int_eq x y).0 i)) (λ i same. true≢false (sym ((Decides-int_eq x y).1 (ap number_in same)) ∙ i)) e

  -- what a comparison of two numbers comes to, in its term and in its branches
  pub record Compares (k : Plain) (r : Branches) : Type 0 where
    pub met : Bool
    pub is : Is defs env k (one_if met)
    pub holds : Taken met r

  module _ (a b k : Plain) (x y : ℤ) (r : Branches) (m : Means defs env a (Number x)) (j : Means defs env b (Number y)) where
    pub numbers_compare : (op : IntOp) → is_comparison op ≡ true → compared op a b ≡ Ok k → of_numbers op a b ≡ Ok r → Compares k r
    numbers_compare c.Eq o e f = record {
      met = int_eq x y;
      is = folded_is defs env Eqz a b k x y (one_if (int_eq x y)) e (number_is a x m) (number_is b y j) refl;
      holds = numbers_equal a b x y r m j f;
    }
    numbers_compare c.Ne o e f =
        let p = ok_parts (folded Eqz a b) (λ n. folded Sub (literal (pos 1)) n) k e in
        let i = folded_is defs env Eqz a b p.0 x y (one_if (int_eq x y)) p.1 (number_is a x m) (number_is b y j) refl in
        record {
          met = not (int_eq x y);
          is = folded_is defs env Sub (literal (pos 1)) p.0 k (pos 1) (one_if (int_eq x y)) (one_if (not (int_eq x y))) p.2 (literal_is defs env (pos 1)) i (ap Some (one_less (int_eq x y)));
          holds = swapped_taken (equality a b) (int_eq x y) r (λ q h. numbers_equal a b x y q m j h) f;
        }
    numbers_compare c.Lt o e f = record {
      met = int_lt x y;
      is = folded_is defs env Ltz a b k x y (one_if (int_lt x y)) e (number_is a x m) (number_is b y j) refl;
      holds = less_taken a b x y r m j f;
    }
    numbers_compare c.Le o e f = record {
      met = int_le x y;
      is = folded_is defs env Lez a b k x y (one_if (int_le x y)) e (number_is a x m) (number_is b y j) refl;
      holds = subst (λ t. Taken t r) (not_less x y) (swapped_taken (less b a) (int_lt y x) r (λ q h. less_taken b a y x q j m h) f);
    }
    numbers_compare c.Gt o e f = record {
      met = int_lt y x;
      is = folded_is defs env Ltz b a k y x (one_if (int_lt y x)) e (number_is b y j) (number_is a x m) refl;
      holds = less_taken b a y x r j m f;
    }
    numbers_compare c.Ge o e f = record {
      met = int_le y x;
      is = folded_is defs env Lez b a k y x (one_if (int_le y x)) e (number_is b y j) (number_is a x m) refl;
      holds = subst (λ t. Taken t r) (not_less y x) (swapped_taken (less a b) (int_lt x y) r (λ q h. less_taken a b x y q m j h) f);
    }
    numbers_compare op o e f = absurd cc
