-- Sums, differences and bounds of numbers: what they mean, and that they are well formed.
use Rattle.std.proofs.Common.{◌≡◌, ℕ, ◌&&◌, Bool, true, false, ℤ, ◌+ℤ◌, ◌-ℤ◌, List, [], Option, Some, None, Ok, refl, ap₂, subst, ◌∙◌}
use Rattle.std.specs.Prelude.{if◌then◌else◌, int_le}
use Rattle.floyd_ctypes.specs.Structs.{Structs}
use Rattle.floyd_int.specs.declared.kinds.Value.{Value}
use Rattle.floyd_tree_sorts.specs.declared.connectives.FormulaHead.TheVariants.{AtMost}
use Rattle.floyd_tree_sorts.specs.declared.operators.Operator.{Operator}
use Rattle.floyd_tree_sorts.specs.declared.operators.Operator.TheVariants.{Add, Sub}
use Rattle.floyd_tree_sorts.specs.declared.sorts.Sort.{Z}
use Rattle.floyd_tree.specs.Formulas.{takes_all}
use Rattle.floyd_tree.specs.Plain.{Plain}
use Rattle.floyd_tree.specs.WellSorted.{sort_of, with_first}
use Rattle.floyd_tree_values.specs.BuiltIns.{Env}
use Rattle.floyd_tree_values.specs.Data.{Number}
use Rattle.floyd_tree_values.specs.Means.{Defs, Means}
use Rattle.floyd_tree_values.specs.Rules.{Calls, CallsOf, EachAllowed, Scope}
use Rattle.floyd_tree_values.proofs.OneValue.{one_value, split}
use Rattle.floyd_truth.specs.Truth.{Truth}
use Rattle.floyd_fieldpath.specs.Nested.{literal}
use Rattle.floyd_fieldpath.specs.Sums.{is_small, literal_in, literal_or, of_both, plus, small, two}
use Rattle.floyd_fieldpath_laws.specs.Conditions.{IsNumber}
use Rattle.floyd_fieldpath_laws.proofs.Meanings.{literal_means, literal_value, two_mean, written_is, written_means}
use Rattle.floyd_fieldpath_laws.proofs.TermSorts.{two_sort}
use Rattle.floyd_folding.specs.Folding.{folded, number_of_two, of_literals}
use Rattle.floyd_goal_formulas.specs.Fits.{Fits}
use Rattle.floyd_goal_parts.specs.Writing.{at_most}
use Rattle.floyd_entail_soundness.proofs.Placing.{same_Ok}

module _ (defs : Defs) (env : Env) where
  pub difference_means : (a b c : Plain) (x y : ℤ) → IsNumber a → IsNumber b → Means defs env a (Number x) → Means defs env b (Number y) → folded Sub a b ≡ Ok c → Means defs env c (Number (x -ℤ y))
  difference_means a b c x y e f m n made = by (literal_in a) (literal_in b) refl refl made
    where
      plain : Means defs env (two Sub a b) (Number (x -ℤ y))
      plain = two_mean defs env Sub Z a b (Number x) (Number y) (two_sort Sub Z Z Z a b e f refl) m n

      of_two : (p q : ℤ) → p ≡ x → q ≡ y → (t : Bool) → literal_or (if t then Some (p -ℤ q) else None) (two Sub a b) ≡ Ok c → Means defs env c (Number (x -ℤ y))
      of_two p q i j true g =
          let value : Means defs env (literal (p -ℤ q)) (Number (x -ℤ y)) = subst (λ z. Means defs env (literal (p -ℤ q)) (Number z)) (ap₂ (λ u v. u -ℤ v) i j) (literal_means defs env (p -ℤ q)) in
          subst (λ t. Means defs env t (Number (x -ℤ y))) (same_Ok {A = Plain} (literal (p -ℤ q)) c g) value
      of_two p q i j false g = written_means defs env (two Sub a b) c (Number (x -ℤ y)) g plain

      by : (o p : Option ℤ) → literal_in a ≡ o → literal_in b ≡ p → literal_or (small (of_literals (number_of_two Sub) o p)) (two Sub a b) ≡ Ok c → Means defs env c (Number (x -ℤ y))
      by (Some p) (Some q) i j g = of_two p q (literal_value defs env a p x i m) (literal_value defs env b q y j n) (is_small (p -ℤ q)) g
      by (Some p) None i j g = written_means defs env (two Sub a b) c (Number (x -ℤ y)) g plain
      by None p i j g = written_means defs env (two Sub a b) c (Number (x -ℤ y)) g plain

  number_is : (x y : ℤ) → Number x ≡ Number y → x ≡ y
  number_is x y e = cc

  -- what a bound says of the numbers
  pub bound_says : (specs : List ℕ → Value → Bool) (a b : Plain) (x y : ℤ) → Means defs env a (Number x) → Means defs env b (Number y) → Truth defs specs env (at_most a b) → int_le x y ≡ true
  bound_says specs a b x y m n (p, q, mean, e) =
      let s = split mean in
      let t = split s.rest in
      let first : s.datum ≡ Number p = (let w = s.is in cc) in
      let second : t.datum ≡ Number q = (let w = s.is in let v = t.is in cc) in
      let left : x ≡ p = number_is x p (one_value defs m (Number p) (subst (Means defs env a) first s.first)) in
      let right : y ≡ q = number_is y q (one_value defs n (Number q) (subst (Means defs env b) second t.first)) in
      ap₂ int_le left right ∙ e

  -- a number that a bound speaks of
  pub bound_of : (specs : List ℕ → Value → Bool) (a b : Plain) → Truth defs specs env (at_most a b) → (x : ℤ) × (y : ℤ) × Means defs env a (Number x) × Means defs env b (Number y) × (int_le x y ≡ true)
  bound_of specs a b (p, q, mean, e) =
      let s = split mean in
      let t = split s.rest in
      let first : s.datum ≡ Number p = (let w = s.is in cc) in
      let second : t.datum ≡ Number q = (let w = s.is in let v = t.is in cc) in
      (p, q, subst (Means defs env a) first s.first, subst (Means defs env b) second t.first, e)

module _ (structs : Structs) (scope : Scope) (calls : Calls) where
  or_good : (operator : Operator) (o : Option ℤ) (a b c : Plain) → EachAllowed structs scope calls a → EachAllowed structs scope calls b → literal_or o (two operator a b) ≡ Ok c → EachAllowed structs scope calls c
  or_good operator None a b c h k e = subst (EachAllowed structs scope calls) (written_is (two operator a b) c e) (tt, (h, (k, tt)))
  or_good operator (Some z) a b c h k e = subst (EachAllowed structs scope calls) (same_Ok {A = Plain} (literal z) c e) (tt, tt)

  pub sum_good : (a b c : Plain) → EachAllowed structs scope calls a → EachAllowed structs scope calls b → plus a b ≡ Ok c → EachAllowed structs scope calls c
  sum_good a b c h k e = or_good Add (small (of_both (λ x y. x +ℤ y) (literal_in a) (literal_in b))) a b c h k e

-- a bound is well formed where both numbers are
pub at_most_fits : (defs : Defs) (scope : Scope) (a b : Plain) → sort_of a ≡ Some Z → sort_of b ≡ Some Z → EachAllowed defs.structs scope (CallsOf defs.funs) a → EachAllowed defs.structs scope (CallsOf defs.funs) b → Fits defs scope (at_most a b)
at_most_fits defs scope a b e f h k = record {
  sorted = ap₂ (λ x y. takes_all AtMost (with_first x (with_first y (Some []))) 0 && true) e f;
  allowed = ((h, (k, tt)), tt);
}
