-- The truth of a formula depends on the variables alone that are free in it.
use Rattle.std.proofs.Common.{◌≡◌, ℕ, Bool, true, false, not, ◌&&◌, ◌||◌, inl, inr, List, refl, sym, ap, subst, ◌∙◌, cond}
use Rattle.std.specs.Prelude.{bytes_eq}
use Rattle.floyd_int.specs.declared.kinds.Value.{Value}
use Rattle.floyd_tree_sorts.specs.declared.connectives.FormulaHead.TheVariants.{True, False, Implies, Or, And, Forall, Exists}
use Rattle.floyd_tree.specs.Formulas.{PlainFormula, PlainFormulas, Says, NoFormula, MoreFormulas, formula_mentions, formulas_mention}
use Rattle.floyd_tree.specs.Plain.{Plains, Done, More, mentions, mentions_in}
use Rattle.floyd_tree_values.specs.BuiltIns.{Env}
use Rattle.floyd_tree_values.specs.Data.{Datum}
use Rattle.floyd_tree_values.specs.Means.{Defs, AllMean, more, none}
use Rattle.floyd_tree_values.proofs.OneValue.{no_data, split}
use Rattle.floyd_truth.specs.Truth.{Truth, FirstTrue, SecondTrue}
use Rattle.floyd_truth.proofs.Fresh.{or_left, or_right}
use Rattle.floyd_truth.proofs.OneTruth.{giving, put, says_of}
use Rattle.floyd_truth.proofs.Tracks.{means_like}

-- both give the same to what is free
abbrev pub Alike : (List ℕ → Bool) → (List ℕ → Datum) → (List ℕ → Datum) → Type 0
Alike free f g = (v : List ℕ) → free v ≡ true → f v ≡ g v

back : (free : List ℕ → Bool) (f g : List ℕ → Datum) → Alike free f g → Alike free g f
back free f g h v e = sym (h v e)

module _ (defs : Defs) (specs : List ℕ → Value → Bool) (env : Env) where
  all_like : (f g : List ℕ → Datum) (ts : Plains) → Alike (λ v. mentions_in v ts) f g → (ds : List Datum) → AllMean defs (giving env f) ts ds → AllMean defs (giving env g) ts ds
  all_like f g Done k ds m = subst (AllMean defs (giving env g) Done) (sym (no_data m)) none
  all_like f g (More t ts) k ds m =
      let p = split m in
      subst (AllMean defs (giving env g) (More t ts)) (sym p.is)
      (more (means_like defs env f g t (λ v e. k v (or_left (mentions v t) (mentions_in v ts) e)) p.datum p.first) (all_like f g ts (λ v e. k v (or_right (mentions v t) (mentions_in v ts) e)) p.data' p.rest))

  below : (x : List ℕ) (d : Datum) (f g : List ℕ → Datum) (terms : Plains) (kids : PlainFormulas) → Alike (λ v. mentions_in v terms || (not (bytes_eq v x) && formulas_mention v kids)) f g → Alike (λ v. formulas_mention v kids) (put f x d) (put g x d)
  below x d f g terms kids h v e = by (bytes_eq v x) refl
    where
      by : (b : Bool) → bytes_eq v x ≡ b → cond b d (f v) ≡ cond b d (g v)
      by true i = refl
      by false i = h v (or_right (mentions_in v terms) (not (bytes_eq v x) && formulas_mention v kids) (ap (λ c. not c && formulas_mention v kids) i ∙ e))

  rest : (f g : List ℕ → Datum) (terms : Plains) (kids : PlainFormulas) → Alike (λ v. mentions_in v terms || formulas_mention v kids) f g → Alike (λ v. formulas_mention v kids) f g
  rest f g terms kids h v e = h v (or_right (mentions_in v terms) (formulas_mention v kids) e)

  mutual
    pub truth_alike : (f g : List ℕ → Datum) (a : PlainFormula) → Alike (λ v. formula_mentions v a) f g → Truth defs specs (giving env f) a → Truth defs specs (giving env g) a
    truth_alike f g (Says (Forall x s) ts fs) h p = λ d e. first_alike (put f x d) (put g x d) fs (below x d f g ts fs h) (p d e)
    truth_alike f g (Says (Exists x s) ts fs) h p = (p.0, p.1, first_alike (put f x p.0) (put g x p.0) fs (below x p.0 f g ts fs h) p.2)
    truth_alike f g (Says True ts fs) h p = tt
    truth_alike f g (Says False ts fs) h p = p
    truth_alike f g (Says Implies ts fs) h p =
        let k = rest f g ts fs h in
        λ q. second_alike f g fs k (p (first_alike g f fs (back (λ v. formulas_mention v fs) f g k) q))
    truth_alike f g (Says Or ts fs) h (inl p) = inl (first_alike f g fs (rest f g ts fs h) p)
    truth_alike f g (Says Or ts fs) h (inr p) = inr (second_alike f g fs (rest f g ts fs h) p)
    truth_alike f g (Says And ts fs) h p = (first_alike f g fs (rest f g ts fs h) p.0, second_alike f g fs (rest f g ts fs h) p.1)
    truth_alike f g (Says head ts fs) h p =
        says_of defs specs env f g head ts ts (all_like f g ts (λ v e. h v (or_left (mentions_in v ts) (formulas_mention v fs) e))) p

    first_alike : (f g : List ℕ → Datum) (fs : PlainFormulas) → Alike (λ v. formulas_mention v fs) f g → FirstTrue defs specs (giving env f) fs → FirstTrue defs specs (giving env g) fs
    first_alike f g NoFormula h p = p
    first_alike f g (MoreFormulas a fs) h p = truth_alike f g a (λ v e. h v (or_left (formula_mentions v a) (formulas_mention v fs) e)) p

    second_alike : (f g : List ℕ → Datum) (fs : PlainFormulas) → Alike (λ v. formulas_mention v fs) f g → SecondTrue defs specs (giving env f) fs → SecondTrue defs specs (giving env g) fs
    second_alike f g NoFormula h p = p
    second_alike f g (MoreFormulas a fs) h p = first_alike f g fs (λ v e. h v (or_right (formula_mentions v a) (formulas_mention v fs) e)) p
