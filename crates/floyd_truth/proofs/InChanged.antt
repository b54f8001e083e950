-- Values and truth after substitution are those in the changed environment.
use Rattle.std.proofs.Common.{◌≡◌, ◌↔◌, ℕ, zero, ◌+◌, ◌<◌, ◌^◌, Bool, true, false, not, ◌&&◌, ◌||◌, ◌⊎◌, inl, inr, List, [], ◌∷◌, length, Option, Some, None, refl, sym, ◌∙◌, ap, subst, arith, true≢false}
use Rattle.std.specs.Prelude.{if◌then◌else◌, bytes_eq, cond, option_and_then}
use Rattle.std.specs.Map.{lookup}
use Rattle.std.proofs.lemmas.Slice.Eq.{bytes_eq-Decides}
use Rattle.floyd_int.specs.declared.kinds.Value.{Value}
use Rattle.floyd_tree_sorts.specs.declared.connectives.FormulaHead.{FormulaHead}
use Rattle.floyd_tree_sorts.specs.declared.connectives.FormulaHead.TheVariants.{True, False, Implies, Or, And, Forall, Exists}
use Rattle.floyd_tree_sorts.specs.declared.heads.Head.{Head}
use Rattle.floyd_tree_sorts.specs.declared.heads.Head.TheVariants.{Variable, Fun}
use Rattle.floyd_tree_sorts.specs.declared.sorts.Sort.{Sort}
use Rattle.floyd_tree_sorts.specs.Heads.{binds, is_variable}
use Rattle.floyd_tree_sorts.specs.Table.{alone, sort_at}
use Rattle.floyd_tree.specs.Formulas.{PlainFormula, PlainFormulas, Says, NoFormula, MoreFormulas, formula_mentions, formulas_mention, formula_size, formula_sizes, listed_formulas, takes_all, well_sorted, all_well_sorted}
use Rattle.floyd_tree.specs.Plain.{Plain, Plains, At, Done, More, mentions, mentions_in, size, sizes}
use Rattle.floyd_tree.specs.WellSorted.{sort_of, sorts_of, with_first}
use Rattle.floyd_tree_values.specs.BuiltIns.{Env, applied}
use Rattle.floyd_tree_values.specs.Data.{Datum, HasSort}
use Rattle.floyd_tree_values.specs.Means.{Defs, Means, AllMean, built_in, call, none, more, is_fun}
use Rattle.floyd_tree_values.proofs.OneValue.{applies, calls, no_data, one_value, split}
use Rattle.floyd_truth.specs.Capture.{Becomes, Put, Called, Changes, bound_in, bound_in_some, renamed}
use Rattle.floyd_truth.specs.Laws.{Changed, IsAfter, nodes}
use Rattle.floyd_truth.specs.Replace.{variable_as, node, replaced, replaced_in, replaced_formula, replaced_formulas, HasSortOf, SortsAgree, AllSortsAgree, FormulaSortsAgree, FormulasSortsAgree, puts}
use Rattle.floyd_truth.specs.Truth.{SaysOf, Truth, FirstTrue, SecondTrue}
use Rattle.floyd_truth.proofs.Fresh.{covers, is_new, weight, either, not_true, or_left, or_right}
use Rattle.floyd_truth.proofs.OneTruth.{giving, put, says_of}
use Rattle.floyd_truth.proofs.Tracks.{Ready, Tracks, TracksBy, ready_below, ready_part}

-- a variable that has a sort has no kids
no_alone : (s t : Sort) (a : Option Sort) (others : Option (List Sort)) → option_and_then (alone s) (with_first a others) ≡ Some t → ⊥
no_alone s t (Some a) (Some others) e = absurd cc
no_alone s t (Some a) None e = absurd cc
no_alone s t None others e = absurd cc

first_there : (a : Option Sort) (others : Option (List Sort)) (ss : List Sort) → with_first a others ≡ Some ss → (s : Sort) × (a ≡ Some s)
first_there (Some a) others ss e = (a, refl)
first_there None others ss e = absurd cc

rest_there : (a : Option Sort) (others : Option (List Sort)) (ss : List Sort) → with_first a others ≡ Some ss → (rest : List Sort) × (others ≡ Some rest)
rest_there (Some a) (Some others) ss e = (others, refl)
rest_there (Some a) None ss e = absurd cc
rest_there None others ss e = absurd cc

sorts_there : (head : Head) (sorts : Option (List Sort)) (s : Sort) → option_and_then (sort_at head) sorts ≡ Some s → (ss : List Sort) × (sorts ≡ Some ss)
sorts_there head (Some ss) s e = (ss, refl)
sorts_there head None s e = absurd cc

-- sorts stay
variable_sort : (o : Option Becomes) (x : List ℕ) (s : Sort) → HasSortOf o s → sort_of (variable_as o x s Done) ≡ Some s
variable_sort (Some (Put t)) x s h = h
variable_sort (Some (Called y)) x s h = refl
variable_sort None x s h = refl

mutual
  pub sort_after : (changes : Changes) (t : Plain) (s : Sort) → sort_of t ≡ Some s → SortsAgree changes t → sort_of (replaced changes t) ≡ Some s
  sort_after changes (At (Variable x o) Done) s e h = variable_sort (lookup (bytes_eq x) changes) x o h.0 ∙ e
  sort_after changes (At (Variable x o) (More t ts)) s e h = absurd (no_alone o s (sort_of t) (sorts_of ts) e)
  sort_after changes (At head ts) s e h =
      let ss = sorts_there head (sorts_of ts) s e in
      ap (option_and_then (sort_at head)) (sorts_after changes ts ss.0 ss.1 h.1 ∙ sym ss.1) ∙ e

  pub sorts_after : (changes : Changes) (ts : Plains) (ss : List Sort) → sorts_of ts ≡ Some ss → AllSortsAgree changes ts → sorts_of (replaced_in changes ts) ≡ Some ss
  sorts_after changes Done ss e h = e
  sorts_after changes (More t ts) ss e h =
      let a = first_there (sort_of t) (sorts_of ts) ss e in
      let b = rest_there (sort_of t) (sorts_of ts) ss e in
      ap (λ q. with_first q (sorts_of (replaced_in changes ts))) (sort_after changes t a.0 a.1 h.0 ∙ sym a.1)
      ∙ ap (with_first (sort_of t)) (sorts_after changes ts b.0 b.1 h.1 ∙ sym b.1)
      ∙ e

module _ (defs : Defs) (env : Env) where
  value_is : (f : List ℕ → Datum) (x : List ℕ) (s : Sort) → Means defs (giving env f) (At (Variable x s) Done) (f x)
  value_is f x s = built_in {head = Variable x s} {s = s} refl refl none

  is_value : (f : List ℕ → Datum) (x : List ℕ) (s : Sort) (d : Datum) → Means defs (giving env f) (At (Variable x s) Done) d → d ≡ f x
  is_value f x s d m = (applies {head = Variable x s} refl m).is

  variable_forth : (f g : List ℕ → Datum) (o : Option Becomes) (x : List ℕ) (s : Sort) (d : Datum) → TracksBy defs env f g o x → Means defs (giving env f) (variable_as o x s Done) d → d ≡ g x
  variable_forth f g (Some (Put t)) x s d k m = sym (one_value defs k d m)
  variable_forth f g (Some (Called y)) x s d k m = is_value f y s d m ∙ k
  variable_forth f g None x s d k m = is_value f x s d m ∙ k

  variable_back : (f g : List ℕ → Datum) (o : Option Becomes) (x : List ℕ) (s : Sort) → TracksBy defs env f g o x → Means defs (giving env f) (variable_as o x s Done) (g x)
  variable_back f g (Some (Put t)) x s k = k
  variable_back f g (Some (Called y)) x s k = subst (Means defs (giving env f) (At (Variable y s) Done)) k (value_is f y s)
  variable_back f g None x s k = subst (Means defs (giving env f) (At (Variable x s) Done)) k (value_is f x s)

  mutual
    pub means_after : (changes : Changes) (f g : List ℕ → Datum) (t : Plain) (s : Sort) (d : Datum) → sort_of t ≡ Some s → SortsAgree changes t → ((v : List ℕ) → mentions v t ≡ true → Tracks defs env changes f g v) → Means defs (giving env f) (replaced changes t) d ↔ Means defs (giving env g) t d
    means_after changes f g (At (Variable x o) Done) s d e h k =
        let here = k x (or_left (bytes_eq x x) false ((bytes_eq-Decides x x).1 refl)) in (
          λ m. subst (Means defs (giving env g) (At (Variable x o) Done)) (sym (variable_forth f g (lookup (bytes_eq x) changes) x o d here m)) (value_is g x o),
          λ m. subst (Means defs (giving env f) (variable_as (lookup (bytes_eq x) changes) x o Done)) (sym (is_value g x o d m)) (variable_back f g (lookup (bytes_eq x) changes) x o here),
        )
    means_after changes f g (At (Variable x o) (More t ts)) s d e h k = absurd (no_alone o s (sort_of t) (sorts_of ts) e)
    means_after changes f g (At (Fun name sorts o) ts) s d e h k =
        let ss = sorts_there (Fun name sorts o) (sorts_of ts) s e in
        let kids = all_after changes f g ts ss.0 ss.1 h.1 k in (
          λ m. let p = calls m in call {bindings = p.opened.bindings} {term = p.opened.term} ((kids p.data').0 p.mean) p.is p.term,
          λ m. let p = calls m in call {bindings = p.opened.bindings} {term = p.opened.term} ((kids p.data').1 p.mean) p.is p.term,
        )
    means_after changes f g (At a ts) s d e h k =
        let ss = sorts_there a (sorts_of ts) s e in
        let kids = all_after changes f g ts ss.0 ss.1 h.1 (λ v i. k v (or_right (is_variable v a) (mentions_in v ts) i)) in
        let same : sorts_of (replaced_in changes ts) ≡ sorts_of ts = sorts_after changes ts ss.0 ss.1 h.1 ∙ sym ss.1 in (
          λ m.
              let p = applies {head = a} refl m in
              subst (Means defs (giving env g) (At a ts)) (sym p.is) (built_in {head = a} refl (sym (ap (option_and_then (sort_at a)) same) ∙ p.sorted) ((kids p.data').0 p.mean)),
          λ m.
              let p = applies {head = a} refl m in
              subst (Means defs (giving env f) (At a (replaced_in changes ts))) (sym p.is) (built_in {head = a} refl (ap (option_and_then (sort_at a)) same ∙ p.sorted) ((kids p.data').1 p.mean)),
        )

    pub all_after : (changes : Changes) (f g : List ℕ → Datum) (ts : Plains) (ss : List Sort) → sorts_of ts ≡ Some ss → AllSortsAgree changes ts → ((v : List ℕ) → mentions_in v ts ≡ true → Tracks defs env changes f g v) → (ds : List Datum) → AllMean defs (giving env f) (replaced_in changes ts) ds ↔ AllMean defs (giving env g) ts ds
    all_after changes f g Done ss e h k ds = (
      λ m. subst (AllMean defs (giving env g) Done) (sym (no_data m)) none,
      λ m. subst (AllMean defs (giving env f) Done) (sym (no_data m)) none,
    )
    all_after changes f g (More t ts) ss e h k ds =
        let a = first_there (sort_of t) (sorts_of ts) ss e in
        let b = rest_there (sort_of t) (sorts_of ts) ss e in
        let first : (d : Datum) → Means defs (giving env f) (replaced changes t) d ↔ Means defs (giving env g) t d = λ d. means_after changes f g t a.0 d a.1 h.0 (λ v i. k v (or_left (mentions v t) (mentions_in v ts) i)) in
        let rest : (es : List Datum) → AllMean defs (giving env f) (replaced_in changes ts) es ↔ AllMean defs (giving env g) ts es = all_after changes f g ts b.0 b.1 h.1 (λ v i. k v (or_right (mentions v t) (mentions_in v ts) i)) in (
          λ m. let p = split m in subst (AllMean defs (giving env g) (More t ts)) (sym p.is) (more ((first p.datum).0 p.first) ((rest p.data').0 p.rest)),
          λ m. let p = split m in subst (AllMean defs (giving env f) (More (replaced changes t) (replaced_in changes ts))) (sym p.is) (more ((first p.datum).1 p.first) ((rest p.data').1 p.rest)),
        )

or_map : {A B C D : Type 0} → (A → C) → (B → D) → A ⊎ B → C ⊎ D
or_map p q (inl a) = inl (p a)
or_map p q (inr b) = inr (q b)

both : (a b : Bool) → (a && b) ≡ true → (a ≡ true) × (b ≡ true)
both true b h = (refl, h)
both false b h = absurd cc

terms_there : (head : FormulaHead) (sorts : Option (List Sort)) (n : ℕ) → takes_all head sorts n ≡ true → (ss : List Sort) × (sorts ≡ Some ss)
terms_there head (Some ss) n h = (ss, refl)
terms_there head None n h = absurd cc

other_and : (a : Bool) (c : Bool) → a ≡ false → c ≡ true → (not a && c) ≡ true
other_and true c h k = absurd cc
other_and false c h k = k

module _ (defs : Defs) (specs : List ℕ → Value → Bool) (env : Env) where
  abbrev ReadyFor : Changes → (List ℕ → Datum) → (List ℕ → Datum) → PlainFormulas → Type 0
  ReadyFor changes f g kids = Ready defs env changes f g (covers kids) (λ v. bound_in_some v kids)

  abbrev ReadyAt : Changes → (List ℕ → Datum) → (List ℕ → Datum) → PlainFormula → Type 0
  ReadyAt changes f g p = Ready defs env changes f g (λ v. formula_mentions v p) (λ v. bound_in v p)

  -- below a head that binds x
  below : (changes : Changes) (f g : List ℕ → Datum) (terms : Plains) (kids : PlainFormulas) (x : List ℕ) (d : Datum) → weight changes + (sizes terms + formula_sizes kids + 1) < 2 ^ 63 → Ready defs env changes f g (λ v. mentions_in v terms || (not (bytes_eq v x) && formulas_mention v kids)) (λ v. bytes_eq v x || bound_in_some v kids) → ReadyFor ((x, Called (renamed changes kids x)) ∷ changes) (put f (renamed changes kids x) d) (put g x d) kids
  below changes f g terms kids x d l r =
      ready_below defs env changes f g (λ v. mentions_in v terms || (not (bytes_eq v x) && formulas_mention v kids)) (λ v. bytes_eq v x || bound_in_some v kids) kids x (renamed changes kids x) d
      (is_new changes kids x (omega (arith, l)))
      r
      (λ v m e. or_right (mentions_in v terms) (not (bytes_eq v x) && formulas_mention v kids) (other_and (bytes_eq v x) (formulas_mention v kids) e m))
      (λ v e. or_left (bytes_eq v x) (bound_in_some v kids) e)
      (λ v e. or_right (bytes_eq v x) (bound_in_some v kids) e)

  -- below a head that binds nothing
  plain_ready : (changes : Changes) (f g : List ℕ → Datum) (terms : Plains) (kids : PlainFormulas) → Ready defs env changes f g (λ v. mentions_in v terms || formulas_mention v kids) (λ v. bound_in_some v kids) → ReadyFor changes f g kids
  plain_ready changes f g terms kids r =
      ready_part defs env changes f g (λ v. mentions_in v terms || formulas_mention v kids) (λ v. bound_in_some v kids) (covers kids) (λ v. bound_in_some v kids)
      (λ v e. or_right (mentions_in v terms) (formulas_mention v kids) e) (λ v e. e) r

  mutual
    pub truth_after : (changes : Changes) (f g : List ℕ → Datum) (p : PlainFormula) → well_sorted p ≡ true → weight changes + formula_size p < 2 ^ 63 → FormulaSortsAgree changes p → ReadyAt changes f g p → Truth defs specs (giving env f) (replaced_formula changes p) ↔ Truth defs specs (giving env g) p
    truth_after changes f g (Says (Forall x s) terms kids) w l h r =
        let sorted = (both (takes_all (Forall x s) (sorts_of terms) (length (listed_formulas kids))) (all_well_sorted kids) w).1 in
        let inside : (d : Datum) → FirstTrue defs specs (giving env (put f (renamed changes kids x) d)) (replaced_formulas ((x, Called (renamed changes kids x)) ∷ changes) kids) ↔ FirstTrue defs specs (giving env (put g x d)) kids = λ d. first_after ((x, Called (renamed changes kids x)) ∷ changes) (put f (renamed changes kids x) d) (put g x d) kids sorted (omega (arith, l)) h.1 (below changes f g terms kids x d l r) in
        (λ p d e. (inside d).0 (p d e), λ p d e. (inside d).1 (p d e))
    truth_after changes f g (Says (Exists x s) terms kids) w l h r =
        let sorted = (both (takes_all (Exists x s) (sorts_of terms) (length (listed_formulas kids))) (all_well_sorted kids) w).1 in
        let inside : (d : Datum) → FirstTrue defs specs (giving env (put f (renamed changes kids x) d)) (replaced_formulas ((x, Called (renamed changes kids x)) ∷ changes) kids) ↔ FirstTrue defs specs (giving env (put g x d)) kids = λ d. first_after ((x, Called (renamed changes kids x)) ∷ changes) (put f (renamed changes kids x) d) (put g x d) kids sorted (omega (arith, l)) h.1 (below changes f g terms kids x d l r) in
        (λ p. (p.0, p.1, (inside p.0).0 p.2), λ p. (p.0, p.1, (inside p.0).1 p.2))
    truth_after changes f g (Says True terms kids) w l h r = (λ p. tt, λ p. tt)
    truth_after changes f g (Says False terms kids) w l h r = (λ p. p, λ p. p)
    truth_after changes f g (Says Implies terms kids) w l h r =
        let sorted = (both (takes_all Implies (sorts_of terms) (length (listed_formulas kids))) (all_well_sorted kids) w).1 in
        let first = first_after changes f g kids sorted (omega (arith, l)) h.1 (plain_ready changes f g terms kids r) in
        let second = second_after changes f g kids sorted (omega (arith, l)) h.1 (plain_ready changes f g terms kids r) in
        (λ p q. second.0 (p (first.1 q)), λ p q. second.1 (p (first.0 q)))
    truth_after changes f g (Says Or terms kids) w l h r =
        let sorted = (both (takes_all Or (sorts_of terms) (length (listed_formulas kids))) (all_well_sorted kids) w).1 in
        let first = first_after changes f g kids sorted (omega (arith, l)) h.1 (plain_ready changes f g terms kids r) in
        let second = second_after changes f g kids sorted (omega (arith, l)) h.1 (plain_ready changes f g terms kids r) in
        (or_map first.0 second.0, or_map first.1 second.1)
    truth_after changes f g (Says And terms kids) w l h r =
        let sorted = (both (takes_all And (sorts_of terms) (length (listed_formulas kids))) (all_well_sorted kids) w).1 in
        let first = first_after changes f g kids sorted (omega (arith, l)) h.1 (plain_ready changes f g terms kids r) in
        let second = second_after changes f g kids sorted (omega (arith, l)) h.1 (plain_ready changes f g terms kids r) in
        (λ p. (first.0 p.0, second.0 p.1), λ p. (first.1 p.0, second.1 p.1))
    truth_after changes f g (Says head terms kids) w l h r =
        let ss = terms_there head (sorts_of terms) (length (listed_formulas kids)) (both (takes_all head (sorts_of terms) (length (listed_formulas kids))) (all_well_sorted kids) w).0 in
        let same = all_after defs env changes f g terms ss.0 ss.1 h.0 (λ v i. r.tracks v (or_left (mentions_in v terms) (formulas_mention v kids) i)) in (
          says_of defs specs env f g head (replaced_in changes terms) terms (λ ds. (same ds).0),
          says_of defs specs env g f head terms (replaced_in changes terms) (λ ds. (same ds).1),
        )

    first_after : (changes : Changes) (f g : List ℕ → Datum) (ps : PlainFormulas) → all_well_sorted ps ≡ true → weight changes + formula_sizes ps < 2 ^ 63 → FormulasSortsAgree changes ps → ReadyFor changes f g ps → FirstTrue defs specs (giving env f) (replaced_formulas changes ps) ↔ FirstTrue defs specs (giving env g) ps
    first_after changes f g NoFormula w l h r = (λ p. p, λ p. p)
    first_after changes f g (MoreFormulas p ps) w l h r =
        truth_after changes f g p (both (well_sorted p) (all_well_sorted ps) w).0 (omega (arith, l)) h.0
        (ready_part defs env changes f g (covers (MoreFormulas p ps)) (λ v. bound_in_some v (MoreFormulas p ps)) (λ v. formula_mentions v p) (λ v. bound_in v p) (λ v e. or_left (formula_mentions v p) (formulas_mention v ps) e) (λ v e. or_left (bound_in v p) (bound_in_some v ps) e) r)

    second_after : (changes : Changes) (f g : List ℕ → Datum) (ps : PlainFormulas) → all_well_sorted ps ≡ true → weight changes + formula_sizes ps < 2 ^ 63 → FormulasSortsAgree changes ps → ReadyFor changes f g ps → SecondTrue defs specs (giving env f) (replaced_formulas changes ps) ↔ SecondTrue defs specs (giving env g) ps
    second_after changes f g NoFormula w l h r = (λ p. p, λ p. p)
    second_after changes f g (MoreFormulas p ps) w l h r =
        first_after changes f g ps (both (well_sorted p) (all_well_sorted ps) w).1 (omega (arith, l)) h.1
        (ready_part defs env changes f g (covers (MoreFormulas p ps)) (λ v. bound_in_some v (MoreFormulas p ps)) (covers ps) (λ v. bound_in_some v ps) (λ v e. or_right (formula_mentions v p) (formulas_mention v ps) e) (λ v e. or_right (bound_in v p) (bound_in_some v ps) e) r)

abbrev put_found : Option Plain → Option Becomes
put_found (Some t) = Some (Put t)
put_found None = None

-- terms in place of variables, and nothing renamed yet
put_at : (t : Plain) (o : Option Becomes) (p : Option Plain) → o ≡ put_found p → (b : Bool) → cond b (Some (Put t)) o ≡ put_found (cond b (Some t) p)
put_at t o p e true = refl
put_at t o p e false = e

puts_found : (by : List (List ℕ × Plain)) (v : List ℕ) → lookup (bytes_eq v) (puts by) ≡ put_found (lookup (bytes_eq v) by)
puts_found [] v = refl
puts_found (p ∷ by) v = put_at p.1 (lookup (bytes_eq v) (puts by)) (lookup (bytes_eq v) by) (puts_found by v) (bytes_eq v p.0)

weight_puts : (by : List (List ℕ × Plain)) → weight (puts by) ≡ nodes by
weight_puts [] = refl
weight_puts (p ∷ by) = ap (λ n. size p.1 + n) (weight_puts by)

module _ (defs : Defs) (env : Env) (by : List (List ℕ × Plain)) (variables : List ℕ → Datum) (changed : Changed defs env by variables) where
  tracks_found : (o : Option Plain) (v : List ℕ) → IsAfter defs env o (env.variables v) (variables v) → TracksBy defs env env.variables variables (put_found o) v
  tracks_found (Some t) v k = k
  tracks_found None v k = sym k

  tracks_puts : (v : List ℕ) → Tracks defs env (puts by) env.variables variables v
  tracks_puts v = subst (λ o. TracksBy defs env env.variables variables o v) (sym (puts_found by v)) (tracks_found (lookup (bytes_eq v) by) v (changed v))

  none_called : (o : Option Plain) (z : List ℕ) → put_found o ≡ Some (Called z) → ⊥
  none_called (Some t) z e = absurd cc
  none_called None z e = absurd cc

  pub ready_puts : (free bound : List ℕ → Bool) → Ready defs env (puts by) env.variables variables free bound
  ready_puts free bound =
      record {
        tracks = λ v e. tracks_puts v;
        kept = λ v z e. absurd (none_called (lookup (bytes_eq v) by) z (sym (puts_found by v) ∙ e));
      }

  pub means_in_changed : (t : Plain) (s : Sort) (d : Datum) → sort_of t ≡ Some s → SortsAgree (puts by) t → Means defs env (replaced (puts by) t) d ↔ Means defs (giving env variables) t d
  means_in_changed t s d e h = means_after defs env (puts by) env.variables variables t s d e h (λ v i. tracks_puts v)

  pub true_in_changed : (specs : List ℕ → Value → Bool) (p : PlainFormula) → well_sorted p ≡ true → nodes by + formula_size p < 2 ^ 63 → FormulaSortsAgree (puts by) p → Truth defs specs env (replaced_formula (puts by) p) ↔ Truth defs specs (giving env variables) p
  true_in_changed specs p w l h =
      truth_after defs specs env (puts by) env.variables variables p w (omega (arith, l, weight_puts by)) h (ready_puts (λ v. formula_mentions v p) (λ v. bound_in v p))
