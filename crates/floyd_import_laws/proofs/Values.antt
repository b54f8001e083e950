-- The values of the terms that stand for the variables of a specification, and what is well formed in it.
use Rattle.std.proofs.Common.{◌≡◌, inl, inr, ⊎_elim, ℕ, Bool, true, false, not, cond, List, [], ◌∷◌, ◌++◌, length, map, Some, refl, sym, ◌∙◌, ap, subst, arith, true≢false}
use Rattle.std.specs.Prelude.{bytes_eq, if◌then◌else◌, IsSome}
use Rattle.std.specs.List.{flat_map}
use Rattle.std.specs.Map.{lookup}
use Rattle.std.proofs.lemmas.Bool.{and_parts, not-true, or_cases, or_left, or_right}
use Rattle.std.proofs.lemmas.List.{map-append}
use Rattle.std.proofs.lemmas.Slice.Eq.{bytes_eq-Decides}
use Rattle.floyd_int.specs.declared.kinds.Value.{Value}
use Rattle.floyd_tree.specs.Formulas.{PlainFormula, all_well_sorted, formulas, well_sorted}
use Rattle.floyd_tree.specs.Plain.{Plain, Done, More, mentions, mentions_in, plains}
use Rattle.floyd_tree.specs.WellSorted.{sorts_of}
use Rattle.floyd_tree_values.specs.BuiltIns.{Env}
use Rattle.floyd_tree_values.specs.Data.{Datum}
use Rattle.floyd_tree_values.specs.Means.{Defs, Means, AllMean, none, more}
use Rattle.floyd_tree_values.specs.Rules.{IsOneOf}
use Rattle.floyd_tree_values.proofs.OneValue.{no_data, one_value, split}
use Rattle.floyd_truth.specs.Capture.{Changes}
use Rattle.floyd_truth.specs.Laws.{IsAfter}
use Rattle.floyd_truth.specs.Replace.{FormulasSortsAgree, replaced, replaced_formula}
use Rattle.floyd_truth.specs.Truth.{AllTrue, Truth}
use Rattle.floyd_truth.proofs.Fresh.{both_true, not_true}
use Rattle.floyd_truth.proofs.InChanged.{sorts_after}
use Rattle.floyd_truth.proofs.OneTruth.{giving, put}
use Rattle.floyd_truth.proofs.Tracks.{means_like}
use Rattle.floyd_assert_trees.specs.declared.assertion.Assertion.{Assertion}
use Rattle.floyd_assert_trees.specs.declared.assertion.Local.{Local}
use Rattle.floyd_assert_trees.specs.declared.binder.Binder.{Binder}
use Rattle.floyd_assert_changes.specs.Changed.{AssertionSortsAgree, assertion_after, has_name, inside, local_after, local_terms, part_after, part_terms, terms_in}
use Rattle.floyd_assert_changes.proofs.Parting.{parts_terms_after}
use Rattle.floyd_assert_changes.proofs.Replacing.{replaced_all}
use Rattle.floyd_assert_changes.proofs.ReplacingFormulas.{well_sorted_after}
use Rattle.floyd_assert_meaning.specs.Laws.{AgreeWhere}
use Rattle.floyd_assert_meaning.specs.Settings.{AreFor, with_each}
use Rattle.floyd_assert_laws.specs.InChanged.{IsSorted}
use Rattle.floyd_assert_laws.proofs.FreeLaws.{agree_each}
use Rattle.floyd_goal_names.proofs.NewNames.{each_other}
use Rattle.floyd_goal_forms.specs.Terms.{names_with}
use Rattle.floyd_links.specs.Imports.{equation, equations, with_terms}
use Rattle.floyd_import_laws.proofs.Collected.{the_sorts}
use Rattle.floyd_import_laws.proofs.Distinct.{AreApart}

-- ---- data for variables

-- each term means its datum
abbrev pub MeanEach : Defs → Env → List Plain → List Datum → Type 0
MeanEach defs env [] [] = Unit {0}
MeanEach defs env [] (d ∷ ds) = ⊥
MeanEach defs env (t ∷ ts) [] = ⊥
MeanEach defs env (t ∷ ts) (d ∷ ds) = Means defs env t d × MeanEach defs env ts ds

is_one : (bs : List Binder) (v : List ℕ) → has_name v bs ≡ true → IsOneOf (names_with bs) v
is_one [] v h = absurd cc
is_one (b ∷ bs) v h = ⊎_elim (λ k. inl ((bytes_eq-Decides v b.name).0 k)) (λ k. inr (is_one bs v k)) (or_cases (bytes_eq v b.name) (has_name v bs) h)

module _ (defs : Defs) (env : Env) where
  -- the variables mean what their terms mean, and the others what they meant
  pub changed_each : (bs : List Binder) (ts : List Plain) (ds : List Datum) → AreFor bs ds → MeanEach defs env ts ds → AreApart bs → (f : List ℕ → Datum) (x : List ℕ) → IsAfter defs env (lookup (bytes_eq x) (with_terms bs ts)) (f x) (with_each f bs ds x)
  changed_each [] ts ds k m u f x = refl
  changed_each (b ∷ bs) ts [] k m u f x = absurd k
  changed_each (b ∷ bs) [] (d ∷ ds) k m u f x = absurd m
  changed_each (b ∷ bs) (t ∷ ts) (d ∷ ds) k m u f x = by (changed_each bs ts ds k.1 m.1 u.1 (put f b.name d) x) (bytes_eq x b.name) refl
    where
      by : IsAfter defs env (lookup (bytes_eq x) (with_terms bs ts)) (put f b.name d x) (with_each (put f b.name d) bs ds x) → (c : Bool) → bytes_eq x b.name ≡ c → IsAfter defs env (cond c (Some t) (lookup (bytes_eq x) (with_terms bs ts))) (f x) (with_each (put f b.name d) bs ds x)
      by go true e =
          let alone : has_name x bs ≡ false = not_true (has_name x bs) (λ h. u.0 (subst (IsOneOf (names_with bs)) ((bytes_eq-Decides x b.name).0 e) (is_one bs x h))) in
          let is : with_each (put f b.name d) bs ds x ≡ d = each_other bs (put f b.name d) ds x alone ∙ ap (λ c. if c then d else f x) e in
          subst (Means defs env t) (sym is) m.0
      by go false e = subst (λ y. IsAfter defs env (lookup (bytes_eq x) (with_terms bs ts)) y (with_each (put f b.name d) bs ds x)) (ap (λ c. if c then d else f x) e) go

-- where all that is tested is one of the names, the others play no part
pub agree_inside : (test : List ℕ → Bool) (bs : List Binder) (ds : List Datum) → AreFor bs ds → ((x : List ℕ) → test x ≡ true → has_name x bs ≡ true) → (f g : List ℕ → Datum) → AgreeWhere test (with_each f bs ds) (with_each g bs ds)
agree_inside test bs ds s k f g =
    agree_each test bs f g
    (λ x i.
    let p = and_parts (test x) (not (has_name x bs)) i in
    absurd (true≢false (sym (k x p.0) ∙ not-true (has_name x bs) p.1)))
    ds s

-- where none that is tested is one of the names, these play no part
pub agree_outside : (test : List ℕ → Bool) (bs : List Binder) (ds : List Datum) → ((x : List ℕ) → test x ≡ true → has_name x bs ≡ false) → (f : List ℕ → Datum) → AgreeWhere test f (with_each f bs ds)
agree_outside test bs ds k f = λ x i. sym (each_other bs f ds x (k x i))

-- ---- terms and equations

module _ (defs : Defs) (env : Env) where
  pub all_like : (f g : List ℕ → Datum) (ts : List Plain) → AgreeWhere (λ x. mentions_in x (plains ts)) f g → (ds : List Datum) → AllMean defs (giving env f) (plains ts) ds → AllMean defs (giving env g) (plains ts) ds
  all_like f g [] k ds m = subst (AllMean defs (giving env g) Done) (sym (no_data m)) none
  all_like f g (t ∷ ts) k ds m =
      let p = split m in
      subst (AllMean defs (giving env g) (More t (plains ts))) (sym p.is)
      (more (means_like defs env f g t (λ v e. k v (or_left (mentions v t) (mentions_in v (plains ts)) e)) p.datum p.first)
      (all_like f g ts (λ v e. k v (or_right (mentions v t) (mentions_in v (plains ts)) e)) p.data' p.rest))

  -- the two sides of an equation mean the same
  pub equal_means : (specs : List ℕ → Value → Bool) (a b : Plain) → Truth defs specs env (equation a b) → (d : Datum) → Means defs env a d → Means defs env b d
  equal_means specs a b t d m =
      let p = split t.1 in
      let q = split p.rest in
      let first : p.datum ≡ d = one_value defs p.first d m in
      let second : q.datum ≡ p.datum = same_two t.0 p.datum q.datum p.data' q.data' p.is q.is in
      subst (Means defs env b) (second ∙ first) q.first
    where
      same_two : (d e g : Datum) (es gs : List Datum) → d ∷ d ∷ [] ≡ e ∷ es → es ≡ g ∷ gs → g ≡ e
      same_two d e g es gs i j = cc

  pub equations_mean : (specs : List ℕ → Value → Bool) (ps qs : List Plain) → length ps ≡ length qs → AllTrue defs specs env (equations ps qs) → (ds : List Datum) → AllMean defs env (plains ps) ds → AllMean defs env (plains qs) ds
  equations_mean specs [] [] l t ds m = m
  equations_mean specs [] (q ∷ qs) l t ds m = absurd (omega (arith, l))
  equations_mean specs (p ∷ ps) [] l t ds m = absurd (omega (arith, l))
  equations_mean specs (p ∷ ps) (q ∷ qs) l t ds m =
      let s = split m in
      subst (AllMean defs env (More q (plains qs))) (sym s.is)
      (more (equal_means specs p q t.0 s.datum s.first) (equations_mean specs ps qs (omega (arith, l)) t.1 s.data' s.rest))

  -- the formulas of two lists
  pub true_apart : (specs : List ℕ → Value → Bool) (ps qs : List PlainFormula) → AllTrue defs specs env (ps ++ qs) → AllTrue defs specs env ps × AllTrue defs specs env qs
  true_apart specs [] qs t = (tt, t)
  true_apart specs (p ∷ ps) qs t = let r = true_apart specs ps qs t.1 in ((t.0, r.0), r.1)

-- ---- what is made of a sorted assertion is sorted

props_after : (ch : Changes) (ps : List PlainFormula) → all_well_sorted (formulas ps) ≡ true → FormulasSortsAgree ch (formulas ps) → all_well_sorted (formulas (map (replaced_formula ch) ps)) ≡ true
props_after ch [] w h = refl
props_after ch (p ∷ ps) w h =
    let b = and_parts (well_sorted p) (all_well_sorted (formulas ps)) w in
    both_true (well_sorted (replaced_formula ch p)) (all_well_sorted (formulas (map (replaced_formula ch) ps))) (well_sorted_after ch p b.0 h.0) (props_after ch ps b.1 h.1)

locals_after : (ch : Changes) (locals : List Local) → local_terms (map (local_after ch) locals) ≡ map (replaced ch) (local_terms locals)
locals_after ch [] = refl
locals_after ch (l ∷ locals) = ap (λ ts. replaced ch l.term ∷ ts) (locals_after ch locals)

terms_after : (ch : Changes) (a : Assertion) → local_terms (map (local_after ch) a.locals) ++ flat_map part_terms (map (part_after ch) a.parts) ≡ map (replaced ch) (terms_in a)
terms_after ch a =
    ap (λ ts. ts ++ flat_map part_terms (map (part_after ch) a.parts)) (locals_after ch a.locals)
    ∙ ap (λ ts. map (replaced ch) (local_terms a.locals) ++ ts) (parts_terms_after ch a.parts)
    ∙ sym (map-append (replaced ch) (local_terms a.locals) (flat_map part_terms a.parts))

pub after_sorted : (ch : Changes) (a : Assertion) → IsSorted a → AssertionSortsAgree ch a → IsSorted (assertion_after ch a)
after_sorted ch a s h =
    let ss = the_sorts (sorts_of (plains (terms_in a))) s.terms in
    let is : sorts_of (plains (terms_in (assertion_after ch a))) ≡ Some ss.0 =
    ap (λ ts. sorts_of (plains ts)) (terms_after (inside ch a) a)
    ∙ ap sorts_of (replaced_all (inside ch a) (terms_in a))
    ∙ sorts_after (inside ch a) (plains (terms_in a)) ss.0 ss.1 h.1 in
    record {
      props = props_after (inside ch a) a.props s.props h.0;
      terms = subst IsSome (sym is) refl;
    }
