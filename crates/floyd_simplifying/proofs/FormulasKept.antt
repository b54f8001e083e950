-- A formula is true as what it is simplified to exactly where it was.
use Rattle.std.proofs.Common.{◌≡◌, ◌↔◌, ℕ, Bool, true, false, ◌⊎◌, inl, inr, cond, List, ◌∷◌, length, Option, Some, None, Result, Ok, Err, refl, sym, ap, ◌∙◌, subst}
use Rattle.std.specs.Prelude.{bytes_eq}
use Rattle.std.specs.Map.{lookup}
use Rattle.std.specs.Option.{unwrap_or}
use Rattle.floyd_int.specs.declared.kinds.Value.{Value}
use Rattle.floyd_text.specs.declared.refusal.No.{No}
use Rattle.floyd_tree_sorts.specs.declared.connectives.FormulaHead.{FormulaHead}
use Rattle.floyd_tree_sorts.specs.declared.connectives.FormulaHead.TheVariants.{True, False, Implies, Or, And, Forall, Exists, Equal}
use Rattle.floyd_tree_sorts.specs.declared.sorts.Sort.{Sort}
use Rattle.floyd_tree_sorts.proofs.SortLemmas.{both_true}
use Rattle.floyd_tree.specs.Formulas.{PlainFormula, PlainFormulas, Says, NoFormula, MoreFormulas, all_well_sorted, listed_formulas, takes_all, well_sorted}
use Rattle.floyd_tree.specs.MadeFormulas.{formula_fits}
use Rattle.floyd_tree.specs.Plain.{Plains, Done, More}
use Rattle.floyd_tree.specs.WellSorted.{sorts_of}
use Rattle.floyd_tree_values.specs.BuiltIns.{Env}
use Rattle.floyd_tree_values.specs.Data.{Datum, HasSort}
use Rattle.floyd_tree_values.specs.Means.{Defs, Means, AllMean, more, none}
use Rattle.floyd_tree_values.specs.Rules.{Scope, Suits, DefsKeep}
use Rattle.floyd_tree_values.proofs.OneValue.{one_list, one_value, split}
use Rattle.floyd_truth.specs.Truth.{Truth, FirstTrue, SecondTrue}
use Rattle.floyd_truth.proofs.OneTruth.{giving, put, says_of}
use Rattle.floyd_arith.proofs.SameLemmas.{same_term_true}
use Rattle.floyd_goal_formulas.specs.Fits.{IsAllowed, AreAllowed, scope_below}
use Rattle.floyd_goal_formulas.proofs.Values.{sorted}
use Rattle.floyd_fieldpath.specs.Written.{ill_sorted, too_large}
use Rattle.floyd_simplifying.specs.Simplified.{formula_over, formula_simplified, formula_written, formulas_simplified, is_identity, over_both, simplified_in, true_or, truth}
use Rattle.floyd_simplifying.proofs.Keeping.{AllKept}
use Rattle.floyd_simplifying.proofs.ListsKept.{on_ok_some}
use Rattle.floyd_simplifying.proofs.TermsKept.{both_are, terms_kept, values}

or_map : {A B C D : Type 0} → (A → C) → (B → D) → A ⊎ B → C ⊎ D
or_map p q (inl a) = inl (p a)
or_map p q (inr b) = inr (q b)

abbrev made_of : PlainFormula → Result PlainFormula No
made_of f = Ok f

formula_by : (b c : Bool) (f g : PlainFormula) → cond b (cond c (made_of f) (Err too_large)) (Err ill_sorted) ≡ Ok g → f ≡ g
formula_by true true f g e = cc
formula_by true false f g e = absurd cc
formula_by false c f g e = absurd cc

written_is : (f g : PlainFormula) → formula_written f ≡ Ok g → f ≡ g
written_is f g e = formula_by (well_sorted f) (formula_fits f) f g e

-- the formula, or True in its place
same_or : (b c : Bool) (f g : PlainFormula) → (c ≡ false → f ≡ g) → unwrap_or (cond b (Some truth) (cond c (Some f) None)) g ≡ cond b truth f
same_or true c f g k = refl
same_or false true f g k = refl
same_or false false f g k = sym (k refl)

-- what is known of the parts where a formula gives one
record Parts (head : FormulaHead) (terms : Plains) (kids : PlainFormulas) (x : Result (Option Plains) No) (y : Result (Option PlainFormulas) No) (r : Option PlainFormula) : Type 0 where
  pub terms' : Option Plains
  pub kids' : Option PlainFormulas
  pub terms_are : x ≡ Ok terms'
  pub kids_are : y ≡ Ok kids'
  pub is : unwrap_or r (Says head terms kids) ≡ cond (is_identity (Says head (unwrap_or terms' terms) (unwrap_or kids' kids))) truth (Says head (unwrap_or terms' terms) (unwrap_or kids' kids))

some_true : (o r : Option PlainFormula) → ◌≡◌ {A = Result (Option PlainFormula) No} (Ok o) (Ok r) → o ≡ r
some_true o r e = cc

over_is : (f g : PlainFormula) (r : Option PlainFormula) → formula_over f ≡ Ok r → unwrap_or r g ≡ cond (is_identity f) truth f
over_is f g r e =
    let p = on_ok_some (formula_written f) (λ made. Ok (true_or true made)) r e in
    let same : f ≡ p.0 = written_is f p.0 p.1 in
    ap (λ q. unwrap_or q g) (sym (some_true (true_or true p.0) r p.2))
    ∙ ap (λ h. unwrap_or (true_or true h) g) (sym same)
    ∙ same_or (is_identity f) true f g (λ c. absurd cc)

parts : (head : FormulaHead) (terms : Plains) (kids : PlainFormulas) (x : Result (Option Plains) No) (y : Result (Option PlainFormulas) No) (r : Option PlainFormula) → over_both head terms kids x y ≡ Ok r → Parts head terms kids x y r
parts head terms kids (Ok None) (Ok None) r e = record {
  terms' = None;
  kids' = None;
  terms_are = refl;
  kids_are = refl;
  is =
      ap (λ q. unwrap_or q (Says head terms kids)) (sym (some_true (true_or false (Says head terms kids)) r e))
      ∙ same_or (is_identity (Says head terms kids)) false (Says head terms kids) (Says head terms kids) (λ c. refl);
}
parts head terms kids (Ok None) (Ok (Some fs)) r e = record { terms' = None; kids' = Some fs; terms_are = refl; kids_are = refl; is = over_is (Says head terms fs) (Says head terms kids) r e }
parts head terms kids (Ok (Some ts)) (Ok fs) r e = record { terms' = Some ts; kids' = fs; terms_are = refl; kids_are = refl; is = over_is (Says head ts (unwrap_or fs kids)) (Says head terms kids) r e }
parts head terms kids (Ok None) (Err refusal) r e = absurd cc
parts head terms kids (Ok (Some ts)) (Err refusal) r e = absurd cc
parts head terms kids (Err refusal) y r e = absurd cc

-- the datum of identical terms is one
identity_true : (defs : Defs) (specs : List ℕ → Value → Bool) (env : Env) (head : FormulaHead) (us : Plains) (fs : PlainFormulas) → is_identity (Says head us fs) ≡ true → (ds : List Datum) → AllMean defs env us ds → Truth defs specs env (Says head us fs)
identity_true defs specs env Equal (More a (More b Done)) fs e ds m =
    let p = split m in
    let q = split p.rest in
    let same : a ≡ b = same_term_true a b e in
    let other : p.datum ≡ q.datum = one_value defs (subst (λ t. Means defs env t p.datum) same p.first) q.datum q.first in
    (p.datum, more p.first (more (subst (Means defs env b) (sym other) q.first) none))
identity_true defs specs env head us fs e ds m = absurd cc

module _ (defs : Defs) (specs : List ℕ → Value → Bool) (env : Env) (keeps : DefsKeep defs) where
  suits_below : (scope : Scope) (g : List ℕ → Datum) (x : List ℕ) (s : Sort) (d : Datum) → Suits scope (giving env g) → HasSort s d → Suits ((x, s) ∷ scope) (giving env (put g x d))
  suits_below scope g x s d suits has = record { each = λ v r e. by v r (bytes_eq v x) e }
    where
      by : (v : List ℕ) (r : Sort) (b : Bool) → cond b (Some s) (lookup (bytes_eq v) scope) ≡ Some r → HasSort r (cond b d (g v))
      by v r true e = let same : s ≡ r = cc in subst (λ q. HasSort q d) same has
      by v r false e = suits.each v r e

  abbrev Same : (List ℕ → Datum) → PlainFormula → PlainFormula → Type 0
  Same g f made = Truth defs specs (giving env g) made ↔ Truth defs specs (giving env g) f

  -- below a head, where what stands below it is true where it was
  abbrev Below : ((List ℕ → Datum) → Type 0) → PlainFormulas → Type 0
  Below P kids = (scope : Scope) (g : List ℕ → Datum) → Suits scope (giving env g) → AreAllowed defs scope kids → P g

  over_kept : (scope : Scope) (g : List ℕ → Datum) → Suits scope (giving env g) → (head : FormulaHead) (ts us : Plains) (kids fs : PlainFormulas) → AreAllowed defs (scope_below head scope) kids → Below (λ f. FirstTrue defs specs (giving env f) fs ↔ FirstTrue defs specs (giving env f) kids) kids → Below (λ f. SecondTrue defs specs (giving env f) fs ↔ SecondTrue defs specs (giving env f) kids) kids → (ds : List Datum) → AllMean defs (giving env g) ts ds → AllMean defs (giving env g) us ds → Same g (Says head ts kids) (Says head us fs)
  over_kept scope g suits (Forall x s) ts us kids fs a first second ds m n = (
    λ p d has. (first ((x, s) ∷ scope) (put g x d) (suits_below scope g x s d suits has) a).0 (p d has),
    λ p d has. (first ((x, s) ∷ scope) (put g x d) (suits_below scope g x s d suits has) a).1 (p d has),
  )
  over_kept scope g suits (Exists x s) ts us kids fs a first second ds m n = (
    λ p. (p.0, p.1, (first ((x, s) ∷ scope) (put g x p.0) (suits_below scope g x s p.0 suits p.1) a).0 p.2),
    λ p. (p.0, p.1, (first ((x, s) ∷ scope) (put g x p.0) (suits_below scope g x s p.0 suits p.1) a).1 p.2),
  )
  over_kept scope g suits True ts us kids fs a first second ds m n = (λ p. tt, λ p. tt)
  over_kept scope g suits False ts us kids fs a first second ds m n = (λ p. p, λ p. p)
  over_kept scope g suits Implies ts us kids fs a first second ds m n =
      let one = first scope g suits a in
      let two = second scope g suits a in
      (λ p r. two.0 (p (one.1 r)), λ p r. two.1 (p (one.0 r)))
  over_kept scope g suits Or ts us kids fs a first second ds m n =
      let one = first scope g suits a in
      let two = second scope g suits a in
      (or_map one.0 two.0, or_map one.1 two.1)
  over_kept scope g suits And ts us kids fs a first second ds m n =
      let one = first scope g suits a in
      let two = second scope g suits a in
      (λ p. (one.0 p.0, two.0 p.1), λ p. (one.1 p.0, two.1 p.1))
  over_kept scope g suits head ts us kids fs a first second ds m n = (
    says_of defs specs env g g head us ts (λ es k. subst (AllMean defs (giving env g) ts) (one_list defs n es k) m),
    says_of defs specs env g g head ts us (λ es k. subst (AllMean defs (giving env g) us) (one_list defs m es k) n),
  )

  mutual
    pub formula_kept : (scope : Scope) (g : List ℕ → Datum) → Suits scope (giving env g) → (f : PlainFormula) → well_sorted f ≡ true → IsAllowed defs scope f → (r : Option PlainFormula) → formula_simplified f ≡ Ok r → Same g f (unwrap_or r f)
    formula_kept scope g suits (Says head terms kids) w a r e =
        let t = both_true (takes_all head (sorts_of terms) (length (listed_formulas kids))) (all_well_sorted kids) w in
        let p = parts head terms kids (simplified_in terms) (formulas_simplified kids) r e in
        let ss = sorted head terms kids w in
        let all : AllKept defs (giving env g) ss.sorts terms (unwrap_or p.terms' terms) = terms_kept defs scope (giving env g) keeps suits terms ss.sorts a.0 ss.are p.terms' p.terms_are in
        let v = values defs scope (giving env g) keeps suits terms ss.sorts a.0 ss.are in
        let over : Same g (Says head terms kids) (Says head (unwrap_or p.terms' terms) (unwrap_or p.kids' kids)) =
        over_kept scope g suits head terms (unwrap_or p.terms' terms) kids (unwrap_or p.kids' kids) a.1
        (λ inner f su al. first_kept inner f su kids t.1 al p.kids' p.kids_are) (λ inner f su al. second_kept inner f su kids t.1 al p.kids' p.kids_are) v.0 v.1 (all.mean v.0 v.1) in
        subst (Same g (Says head terms kids)) (sym p.is)
        (by (is_identity (Says head (unwrap_or p.terms' terms) (unwrap_or p.kids' kids))) (unwrap_or p.terms' terms) (unwrap_or p.kids' kids) refl v.0 (all.mean v.0 v.1) over)
      where
        by : (b : Bool) (us : Plains) (fs : PlainFormulas) → is_identity (Says head us fs) ≡ b → (ds : List Datum) → AllMean defs (giving env g) us ds → Same g (Says head terms kids) (Says head us fs) → Same g (Says head terms kids) (cond b truth (Says head us fs))
        by false us fs i ds m k = k
        by true us fs i ds m k = (λ x. k.0 (identity_true defs specs (giving env g) head us fs i ds m), λ x. tt)

    first_kept : (scope : Scope) (g : List ℕ → Datum) → Suits scope (giving env g) → (fs : PlainFormulas) → all_well_sorted fs ≡ true → AreAllowed defs scope fs → (q : Option PlainFormulas) → formulas_simplified fs ≡ Ok q → FirstTrue defs specs (giving env g) (unwrap_or q fs) ↔ FirstTrue defs specs (giving env g) fs
    first_kept scope g suits NoFormula w a q e =
        let nothing : None ≡ q = cc in
        subst (λ o. FirstTrue defs specs (giving env g) (unwrap_or o NoFormula) ↔ FirstTrue defs specs (giving env g) NoFormula) nothing (λ p. p, λ p. p)
    first_kept scope g suits (MoreFormulas f fs) w a q e =
        let b = both_are MoreFormulas f fs (formula_simplified f) (formulas_simplified fs) q e in
        subst (λ o. FirstTrue defs specs (giving env g) o ↔ Truth defs specs (giving env g) f) b.is
        (formula_kept scope g suits f (both_true (well_sorted f) (all_well_sorted fs) w).0 a.0 b.first b.first_is)

    second_kept : (scope : Scope) (g : List ℕ → Datum) → Suits scope (giving env g) → (fs : PlainFormulas) → all_well_sorted fs ≡ true → AreAllowed defs scope fs → (q : Option PlainFormulas) → formulas_simplified fs ≡ Ok q → SecondTrue defs specs (giving env g) (unwrap_or q fs) ↔ SecondTrue defs specs (giving env g) fs
    second_kept scope g suits NoFormula w a q e =
        let nothing : None ≡ q = cc in
        subst (λ o. SecondTrue defs specs (giving env g) (unwrap_or o NoFormula) ↔ SecondTrue defs specs (giving env g) NoFormula) nothing (λ p. p, λ p. p)
    second_kept scope g suits (MoreFormulas f fs) w a q e =
        let b = both_are MoreFormulas f fs (formula_simplified f) (formulas_simplified fs) q e in
        subst (λ o. SecondTrue defs specs (giving env g) o ↔ FirstTrue defs specs (giving env g) fs) b.is
        (first_kept scope g suits fs (both_true (well_sorted f) (all_well_sorted fs) w).1 a.1 b.rest b.rest_is)
