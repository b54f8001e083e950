-- A certificate refutes that its hypotheses are true and its target is not.
use Rattle.std.proofs.Common.{◌≡◌, ℕ, zero, suc, ◌*◌, Bool, true, false, cond, ℤ, pos, negsuc, ◌+ℤ◌, ◌-ℤ◌, ◌*ℤ◌, List, [], ◌∷◌, Option, Some, None, Result, Ok, IsTrue, int_le, refl, sym, ap, subst, ◌∙◌, arith}
use Rattle.std.specs.Prelude.{slice_get, option_and_then, int_lt, not}
use Rattle.std.specs.Ordering.{int_eq}
use Rattle.std.proofs.lemmas.Bool.{le-leb}
use Rattle.std.proofs.lemmas.Int.{ints}
use Rattle.std.proofs.Math.IntN.{*ℤ-zero, zero-*ℤ, pos-*ℤ-pos}
use Rattle.floyd_int.specs.declared.kinds.Value.{Value}
use Rattle.floyd_text.specs.declared.code.Code.TheVariants as c
use Rattle.floyd_text.specs.declared.refusal.No.{No}
use Rattle.floyd_text.specs.declared.refusal.Shown.TheVariants.{Nothing}
use Rattle.floyd_tree_sorts.specs.declared.connectives.FormulaHead.TheVariants as f
use Rattle.floyd_tree_sorts.specs.declared.heads.Head.TheVariants.{Literal}
use Rattle.floyd_tree_sorts.specs.declared.sorts.Sort.{Sort, Z}
use Rattle.floyd_tree_sorts.specs.Sorts.{is_z}
use Rattle.floyd_tree_sorts.proofs.SortLemmas.{both_true}
use Rattle.floyd_tree.specs.declared.weights.Weight.{Weight}
use Rattle.floyd_tree.specs.Formulas.{PlainFormula, Says}
use Rattle.floyd_tree.specs.Plain.{Plain, At, Done, More}
use Rattle.floyd_tree.specs.WellSorted.{sort_of}
use Rattle.floyd_tree_values.specs.BuiltIns.{Env}
use Rattle.floyd_tree_values.specs.Data.{Datum, Number, Val, Seq, Tree, Pair, HasSort, number_in}
use Rattle.floyd_tree_values.specs.Means.{Defs, Means, AllMean, none, more}
use Rattle.floyd_tree_values.specs.Rules.{Scope, Suits, DefsKeep}
use Rattle.floyd_tree_values.proofs.AllFuns.{a_value}
use Rattle.floyd_tree_values.proofs.OneValue.{split}
use Rattle.floyd_truth.specs.Truth.{Truth, AllTrue}
use Rattle.floyd_arith.specs.declared.unknowns.Linear.{Linear}
use Rattle.floyd_arith.specs.declared.unknowns.Unknown.{Unknown}
use Rattle.floyd_arith.specs.Certificates.{Fact, NotNegative, IsZero, difference, difference_of, of_equation, fact_of, fact_at, first_absent, may_weigh, first_negative, difference_at, onto, summed, all_cancel, is_false, refused, by_names, certified}
use Rattle.floyd_arith.specs.Laws.{IsTarget, CertificatesHold}
use Rattle.floyd_arith.specs.Linear.{constant, scaled, plus, linear_of}
use Rattle.floyd_arith.proofs.Values.{Is, AddUp, Has, Gives, has_plus, has_scaled, has_constant, gives_within, gives_minus, gives_linear}

abbrev Le : ℤ → ℤ → Type 0
Le a b = IsTrue (int_le a b)

at_least_zero : (n : ℕ) → Le (pos 0) (pos n)
at_least_zero n = le-leb 0 n (omega arith)

-- a weight of at least 0 times what is at least 0
weighs : (w x : ℤ) → not (int_lt w (pos 0)) ≡ true → Le (pos 0) x → Le (pos 0) (w *ℤ x)
weighs (pos m) (pos n) g h = subst (λ z. Le (pos 0) z) (sym (pos-*ℤ-pos m n)) (at_least_zero (m * n))
weighs (pos m) (negsuc n) g h = absurd cc
weighs (negsuc m) x g h = absurd cc

added : (a b : ℤ) → Le (pos 0) a → Le (pos 0) b → Le (pos 0) (a +ℤ b)
added a b g h = grind (arith, ints)

module _ (defs : Defs) (specs : List ℕ → Value → Bool) (env : Env) where
  -- what the fact says is true, where its difference is a linear term
  abbrev Holds : Fact → Type 0
  Holds (NotNegative d) = (x : ℤ) × Gives defs env (linear_of d) x × Le (pos 0) x
  Holds (IsZero d) = Gives defs env (linear_of d) (pos 0)

  -- the numbers of two terms of which a formula speaks
  both_mean : (t u : Plain) (a b : Datum) → AllMean defs env (More t (More u Done)) (a ∷ b ∷ []) → Means defs env t a × Means defs env u b
  both_mean t u a b k =
      let p = split k in
      let q = split p.rest in
      let first : a ≡ p.datum = cc (p.is) in
      let second : b ≡ q.datum = cc (p.is, q.is) in
      (subst (Means defs env t) (sym first) p.first, subst (Means defs env u) (sym second) q.first)

  is_number : (t : Plain) (d : Datum) → Means defs env t d → Is defs env t (number_in d)
  is_number t d m = record { datum = d; means = m; number = refl }

  at_most : (t u : Plain) (m n : ℤ) → Means defs env t (Number m) → Means defs env u (Number n) → Le m n → Holds (NotNegative (difference u t))
  at_most t u m n i j h = (n -ℤ m, gives_minus defs env u t n m (gives_linear defs env u n (is_number u (Number n) j)) (gives_linear defs env t m (is_number t (Number m) i)), less m n h)
    where
      less : (m n : ℤ) → Le m n → Le (pos 0) (n -ℤ m)
      less m n h = grind (arith, ints)

  above : (t u : Plain) (m n : ℤ) → Means defs env t (Number m) → Means defs env u (Number n) → int_le m n ≡ false → Holds (NotNegative (difference (difference t u) (At (Literal (pos 1)) Done)))
  above t u m n i j h =
      let first = gives_minus defs env t u m n (gives_linear defs env t m (is_number t (Number m) i)) (gives_linear defs env u n (is_number u (Number n) j)) in
      let one = gives_within defs env (constant (pos 1)) (pos 1) (has_constant defs env (pos 1)) in
      ((m -ℤ n) -ℤ pos 1, gives_minus defs env (difference t u) (At (Literal (pos 1)) Done) (m -ℤ n) (pos 1) first one, less m n h)
    where
      less : (m n : ℤ) → int_le m n ≡ false → Le (pos 0) ((m -ℤ n) -ℤ pos 1)
      less m n h = grind (arith, ints)

  equal : (t u : Plain) (d : Datum) → Means defs env t d → Means defs env u d → Holds (IsZero (difference t u))
  equal t u d i j = subst (Gives defs env (linear_of (difference t u))) (none_left (number_in d)) (gives_minus defs env t u (number_in d) (number_in d) (gives_linear defs env t (number_in d) (is_number t d i)) (gives_linear defs env u (number_in d) (is_number u d j)))
    where
      none_left : (a : ℤ) → a -ℤ a ≡ pos 0
      none_left a = omega (arith, ints)

  of_numbers : (s : Option Sort) (t u : Plain) (fact : Fact) → of_equation s t u ≡ Some fact → IsZero (difference t u) ≡ fact
  of_numbers None t u fact e = absurd cc
  of_numbers (Some s) t u fact e = by_test (is_z s) e
    where
      by_test : (b : Bool) → cond b (Some (IsZero (difference t u))) None ≡ Some fact → IsZero (difference t u) ≡ fact
      by_test true e = cc
      by_test false e = absurd cc

  -- what a true formula says holds
  says : (formula : PlainFormula) (fact : Fact) → fact_of formula ≡ Some fact → Truth defs specs env formula → Holds fact
  says (Says f.AtMost (More t (More u Done)) kids) fact e (m, n, k, h) =
      let same : NotNegative (difference u t) ≡ fact = cc in
      let p = both_mean t u (Number m) (Number n) k in
      subst Holds same (at_most t u m n p.0 p.1 h)
  says (Says f.Equal (More t (More u Done)) kids) fact e (d, k) =
      let p = both_mean t u d d k in
      subst Holds (of_numbers (sort_of t) t u fact e) (equal t u d p.0 p.1)
  says formula fact e h = absurd cc

  says_at : (hypotheses : List PlainFormula) (n : ℕ) (fact : Fact) → option_and_then fact_of (slice_get hypotheses n) ≡ Some fact → AllTrue defs specs env hypotheses → Holds fact
  says_at [] n fact e h = absurd cc
  says_at (g ∷ gs) zero fact e h = says g fact e h.0
  says_at (g ∷ gs) (suc n) fact e h = says_at gs n fact e h.1

  -- the value of the linear term is at least 0
  abbrev NotBelow : Linear → Type 0
  NotBelow a = (z : ℤ) × Has defs env a z × Le (pos 0) z

  onto_sum : (o : Option Linear) (sum next : Linear) (w x : ℤ) → Gives defs env o x → Le (pos 0) (w *ℤ x) → option_and_then (onto sum w) o ≡ Some next → NotBelow sum → NotBelow next
  onto_sum None sum next w x g h e b = absurd cc
  onto_sum (Some d) sum next w x g h e (z, i, k) =
      (z +ℤ w *ℤ x, gives_within defs env (plus sum (scaled w d)) (z +ℤ w *ℤ x) (has_plus defs env sum (scaled w d) z (w *ℤ x) i (has_scaled defs env w d x (g d refl))) next e, added z (w *ℤ x) k h)

  -- what is added to a sum keeps it at least 0
  adds : (o : Option Fact) (sum next : Linear) (w : ℤ) → may_weigh o w ≡ true → ((fact : Fact) → o ≡ Some fact → Holds fact) → option_and_then (onto sum w) (option_and_then (λ fact. linear_of (difference_of fact)) o) ≡ Some next → NotBelow sum → NotBelow next
  adds None sum next w g h e b = absurd cc
  adds (Some (NotNegative d)) sum next w g h e b = let p = h (NotNegative d) refl in onto_sum (linear_of d) sum next w p.0 p.1 (weighs w p.0 g p.2) e b
  adds (Some (IsZero d)) sum next w g h e b = onto_sum (linear_of d) sum next w (pos 0) (h (IsZero d) refl) (subst (λ z. Le (pos 0) z) (sym (*ℤ-zero w)) refl) e b

  -- every fact that has a number holds
  abbrev AllHold : List PlainFormula → PlainFormula → Type 0
  AllHold hypotheses target = (n : ℕ) (fact : Fact) → fact_at hypotheses target n ≡ Some fact → Holds fact

  may_all : (b : Bool) (rest : Option ℕ) (n : ℕ) → cond b rest (Some n) ≡ None → (b ≡ true) × (rest ≡ None)
  may_all true rest n e = (refl, e)
  may_all false rest n e = absurd cc

  sums : (hypotheses : List PlainFormula) (target : PlainFormula) → AllHold hypotheses target → (weights : List Weight) (sum final : Linear) → first_negative hypotheses target weights ≡ None → summed hypotheses target sum weights ≡ Some final → NotBelow sum → NotBelow final
  sums hypotheses target all [] sum final g e b = let same : sum ≡ final = cc in subst NotBelow same b
  sums hypotheses target all (w ∷ weights) sum final g e b =
      let p = may_all (may_weigh (fact_at hypotheses target w.hypothesis) w.weight) (first_negative hypotheses target weights) w.hypothesis g in
      go (option_and_then (onto sum w.weight) (difference_at hypotheses target w.hypothesis)) refl p.0 (λ next d c. sums hypotheses target all weights next final p.1 d c) e
    where
      go : (o : Option Linear) → option_and_then (onto sum w.weight) (difference_at hypotheses target w.hypothesis) ≡ o → may_weigh (fact_at hypotheses target w.hypothesis) w.weight ≡ true → ((next : Linear) → summed hypotheses target next weights ≡ Some final → NotBelow next → NotBelow final) → option_and_then (λ next. summed hypotheses target next weights) o ≡ Some final → NotBelow final
      go None d m rest s = absurd cc
      go (Some next) d m rest s = rest next s (adds (fact_at hypotheses target w.hypothesis) sum next w.weight m (all w.hypothesis) d b)

  cancels : (us : List Unknown) (s : ℤ) → all_cancel us ≡ true → AddUp defs env us s → s ≡ pos 0
  cancels [] s e a = a
  cancels (u ∷ us) s e (x, r, i, rest, f) =
      let both = both_true (int_eq u.coefficient (pos 0)) (all_cancel us) e in
      let none : u.coefficient ≡ pos 0 = equal_zero u.coefficient both.0 in
      f ∙ ap (λ z. z *ℤ x +ℤ r) none ∙ ap (λ z. z +ℤ r) (zero-*ℤ x) ∙ ap (λ z. pos 0 +ℤ z) (cancels us r both.1 rest)
    where
      equal_zero : (z : ℤ) → int_eq z (pos 0) ≡ true → z ≡ pos 0
      equal_zero z e = grind (arith, ints)

  contradicts : (a : Linear) → is_false a ≡ true → NotBelow a → ⊥
  contradicts a e (z, h, k) =
      let both = both_true (all_cancel a.unknowns) (int_lt a.constant (pos 0)) e in
      below z a.constant h.rest (cancels a.unknowns h.rest both.0 h.unknowns) h.sum k both.1
    where
      below : (z c r : ℤ) → r ≡ pos 0 → z ≡ c +ℤ r → Le (pos 0) z → int_lt c (pos 0) ≡ true → ⊥
      below z c r e f h g = grind (arith, ints)

  passes : (absent negative : Option ℕ) (o : Option Linear) → by_names absent negative o ≡ Ok tt → (negative ≡ None) × ((a : Linear) × (o ≡ Some a) × (is_false a ≡ true))
  passes (Some n) negative o e = absurd cc
  passes None (Some n) o e = absurd cc
  passes None None None e = absurd cc
  passes None None (Some a) e = (refl, (a, refl, by_test (is_false a) e))
    where
      by_test : (b : Bool) → cond {A = Result (Unit {0}) No} b (Ok (tt {0})) (refused c.NotRefuted Nothing) ≡ Ok (tt {0}) → b ≡ true
      by_test true e = refl
      by_test false e = absurd cc

  -- the facts of a certificate cannot all hold
  refutes : (hypotheses : List PlainFormula) (target : PlainFormula) (weights : List Weight) → certified hypotheses target weights ≡ Ok tt → AllHold hypotheses target → ⊥
  refutes hypotheses target weights e all =
      let p = passes (first_absent hypotheses target weights) (first_negative hypotheses target weights) (summed hypotheses target (constant (pos 0)) weights) e in
      contradicts p.1.0 p.1.2 (sums hypotheses target all weights (constant (pos 0)) p.1.0 p.0 p.1.1 (pos 0, has_constant defs env (pos 0), refl))

  number_of : (t : Plain) (d : Datum) → Means defs env t d → HasSort Z d → (n : ℤ) × Means defs env t (Number n)
  number_of t (Number n) m h = (n, m)
  number_of t (Val v) m h = absurd h
  number_of t (Seq items) m h = absurd h
  number_of t (Tree tree) m h = absurd h
  number_of t (Pair a b) m h = absurd h

  proves : (scope : Scope) (hypotheses : List PlainFormula) (target : PlainFormula) (weights : List Weight) → DefsKeep defs → Suits scope env → IsTarget defs scope target → certified hypotheses target weights ≡ Ok tt → AllTrue defs specs env hypotheses → Truth defs specs env target
  proves scope hypotheses (Says f.AtMost (More t (More u Done)) kids) weights keeps suits fits e h =
      let v = a_value defs scope env Z t keeps suits fits.0 in
      let w = a_value defs scope env Z u keeps suits fits.1 in
      let m = number_of t v.0 v.1 v.2 in
      let n = number_of u w.0 w.1 w.2 in
      by_order m.0 n.0 m.1 n.1 (int_le m.0 n.0) refl
    where
      all_hold : (m n : ℤ) → Means defs env t (Number m) → Means defs env u (Number n) → int_le m n ≡ false → (i : ℕ) (fact : Fact) → fact_at hypotheses (Says f.AtMost (More t (More u Done)) kids) i ≡ Some fact → Holds fact
      all_hold m n i j g zero fact d =
          let same : NotNegative (difference (difference t u) (At (Literal (pos 1)) Done)) ≡ fact = cc in
          subst Holds same (above t u m n i j g)
      all_hold m n i j g (suc k) fact d = says_at hypotheses k fact d h

      by_order : (m n : ℤ) → Means defs env t (Number m) → Means defs env u (Number n) → (b : Bool) → int_le m n ≡ b → Truth defs specs env (Says f.AtMost (More t (More u Done)) kids)
      by_order m n i j true g = (m, n, more i (more j none), g)
      by_order m n i j false g = absurd (refutes hypotheses (Says f.AtMost (More t (More u Done)) kids) weights e (all_hold m n i j g))
  proves scope hypotheses (Says f.False Done kids) weights keeps suits fits e h = refutes hypotheses (Says f.False Done kids) weights e all_hold
    where
      all_hold : (i : ℕ) (fact : Fact) → fact_at hypotheses (Says f.False Done kids) i ≡ Some fact → Holds fact
      all_hold zero fact d = absurd cc
      all_hold (suc k) fact d = says_at hypotheses k fact d h
  proves scope hypotheses target weights keeps suits fits e h = absurd fits

pub hold : CertificatesHold
hold defs specs scope env hypotheses target weights keeps suits fits e h = proves defs specs env scope hypotheses target weights keeps suits fits e h
