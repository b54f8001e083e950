-- What formulas that a row writes say.
use Rattle.std.proofs.Common.{◌≡◌, ℕ, suc, Bool, true, false, ℤ, List, [], ◌∷◌, ◌++◌, length, Option, Some, None, Result, Ok, Err, refl, sym, ap, subst, ◌∙◌}
use Rattle.std.specs.Prelude.{if◌then◌else◌, int_le, is_some}
use Rattle.std.specs.List.{list_any}
use Rattle.floyd_int.specs.declared.kinds.Value.{Value}
use Rattle.floyd_text.specs.declared.refusal.No.{No}
use Rattle.floyd_tree_sorts.specs.declared.sorts.Sort.{Sort}
use Rattle.floyd_tree.specs.Formulas.{PlainFormula}
use Rattle.floyd_tree.specs.Made.{fits}
use Rattle.floyd_tree.specs.Plain.{Plain, Done, More, plains}
use Rattle.floyd_tree.specs.WellSorted.{sort_of}
use Rattle.floyd_tree_values.specs.BuiltIns.{Env}
use Rattle.floyd_tree_values.specs.Data.{Datum, Number}
use Rattle.floyd_tree_values.specs.Means.{Defs, Means, AllMean, none, more}
use Rattle.floyd_tree_values.proofs.OneValue.{no_data, split}
use Rattle.floyd_truth.specs.Truth.{AllTrue, Truth}
use Rattle.floyd_fieldpath.specs.Written.{ill_sorted, too_large, written}
use Rattle.floyd_goal_formulas.specs.Keeping as k
use Rattle.floyd_goal_parts.specs.Writing.{all_written, at_most, equation, is_faulty}

pub all_written_is : (fs gs : List PlainFormula) → all_written fs ≡ Ok gs → fs ≡ gs
all_written_is fs gs e = by (list_any is_faulty fs) e
  where
    by : (b : Bool) → ◌≡◌ {A = Result (List PlainFormula) No} (if b then Err k.too_large else Ok fs) (Ok gs) → fs ≡ gs
    by true f = absurd cc
    by false f = cc

-- a term that is written has a sort
pub written_sorted : (t u : Plain) → written t ≡ Ok u → (s : Sort) × (sort_of t ≡ Some s)
written_sorted t u e = by (sort_of t) refl e
  where
    by : (o : Option Sort) → sort_of t ≡ o → ◌≡◌ {A = Result Plain No} (if is_some o then (if fits t then Ok t else Err too_large) else Err ill_sorted) (Ok u) → (s : Sort) × (sort_of t ≡ Some s)
    by (Some s) f g = (s, f)
    by None f g = absurd cc

module _ (defs : Defs) (env : Env) where
  -- the values of two lists of terms
  pub means_joined : (ts us : List Plain) (ds es : List Datum) → AllMean defs env (plains ts) ds → AllMean defs env (plains us) es → AllMean defs env (plains (ts ++ us)) (ds ++ es)
  means_joined [] us ds es m n = subst (λ xs. AllMean defs env (plains us) (xs ++ es)) (sym (no_data m)) n
  means_joined (t ∷ ts) us ds es m n =
      let p = split m in
      subst (λ xs. AllMean defs env (More t (plains (ts ++ us))) (xs ++ es)) (sym p.is) (more p.first (means_joined ts us p.data' es p.rest n))

  pub means_count : (ts : List Plain) (ds : List Datum) → AllMean defs env (plains ts) ds → length ts ≡ length ds
  means_count [] ds m = ap length (sym (no_data m))
  means_count (t ∷ ts) ds m =
      let p = split m in
      ap suc (means_count ts p.data' p.rest) ∙ ap length (sym p.is)

  pub two_mean : (t u : Plain) (d e : Datum) → Means defs env t d → Means defs env u e → AllMean defs env (More t (More u Done)) (d ∷ e ∷ [])
  two_mean t u d e m n = more m (more n none)

  module _ (specs : List ℕ → Value → Bool) where
    pub says_equal : (t u : Plain) (d : Datum) → Means defs env t d → Means defs env u d → Truth defs specs env (equation t u)
    says_equal t u d m n = (d, two_mean t u d d m n)

    pub says_at_most : (t u : Plain) (m n : ℤ) → Means defs env t (Number m) → Means defs env u (Number n) → int_le m n ≡ true → Truth defs specs env (at_most t u)
    says_at_most t u m n a b e = (m, n, two_mean t u (Number m) (Number n) a b, e)

    pub both_true : (fs gs : List PlainFormula) → AllTrue defs specs env fs → AllTrue defs specs env gs → AllTrue defs specs env (fs ++ gs)
    both_true [] gs a b = b
    both_true (f ∷ fs) gs a b = (a.0, both_true fs gs a.1 b)
