-- A formula is true with what calls mean in their place exactly where it was.
use Rattle.std.proofs.Common.{◌≡◌, ◌↔◌, ℕ, Bool, true, false, ◌⊎◌, inl, inr, cond, List, ◌∷◌, length, Option, Some, None, Result, Ok, Err, refl, sym, ap, ◌∙◌, subst}
use Rattle.std.specs.Prelude.{bytes_eq}
use Rattle.std.specs.Map.{lookup}
use Rattle.std.specs.Option.{unwrap_or}
use Rattle.floyd_int.specs.declared.kinds.Value.{Value}
use Rattle.floyd_text.specs.declared.refusal.No.{No}
use Rattle.floyd_tree_sorts.specs.declared.connectives.FormulaHead.{FormulaHead}
use Rattle.floyd_tree_sorts.specs.declared.connectives.FormulaHead.TheVariants.{True, False, Implies, Or, And, Forall, Exists}
use Rattle.floyd_tree_sorts.specs.declared.sorts.Sort.{Sort}
use Rattle.floyd_tree_sorts.proofs.SortLemmas.{both_true}
use Rattle.floyd_tree.specs.Formulas.{PlainFormula, PlainFormulas, Says, NoFormula, MoreFormulas, all_well_sorted, listed_formulas, takes_all, well_sorted}
use Rattle.floyd_tree.specs.MadeFormulas.{formula_fits}
use Rattle.floyd_tree.specs.Plain.{Plains}
use Rattle.floyd_tree.specs.WellSorted.{sorts_of}
use Rattle.floyd_tree_values.specs.BuiltIns.{Env}
use Rattle.floyd_tree_values.specs.Data.{Datum, HasSort}
use Rattle.floyd_tree_values.specs.Means.{Defs, AllMean}
use Rattle.floyd_tree_values.specs.Rules.{Scope, Suits, DefsKeep}
use Rattle.floyd_tree_values.proofs.OneValue.{one_list}
use Rattle.floyd_truth.specs.Truth.{Truth, FirstTrue, SecondTrue}
use Rattle.floyd_truth.proofs.OneTruth.{giving, put, says_of}
use Rattle.floyd_goal_formulas.specs.Fits.{IsAllowed, AreAllowed, scope_below}
use Rattle.floyd_goal_formulas.proofs.Values.{sorted}
use Rattle.floyd_fieldpath.specs.Written.{ill_sorted, too_large}
use Rattle.floyd_simplifying.specs.Simplified.{formula_written}
use Rattle.floyd_simplifying.proofs.TermsKept.{both_are, values}
use Rattle.floyd_assert_trees.specs.declared.items.Fun.{Fun}
use Rattle.floyd_assert_trees.specs.Meanings.{fun_of}
use Rattle.floyd_tree_values.specs.Funs as funs
use Rattle.floyd_unfolding.specs.Calls.{TakesTerms}
use Rattle.floyd_unfolding.specs.Unfolded.{formula_unfolded, formulas_unfolded, over_both, some_formula, unfolded_in}
use Rattle.floyd_unfolding_soundness.proofs.TermsUnfolded.{AllGood, terms_good}

or_map : {A B C D : Type 0} → (A → C) → (B → D) → A ⊎ B → C ⊎ D
or_map p q (inl a) = inl (p a)
or_map p q (inr b) = inr (q b)

abbrev made_of : PlainFormula → Result PlainFormula No
made_of f = Ok f

formula_by : (b c : Bool) (f g : PlainFormula) → cond b (cond c (made_of f) (Err too_large)) (Err ill_sorted) ≡ Ok g → (b ≡ true) × (f ≡ g)
formula_by true true f g e = (refl, cc)
formula_by true false f g e = absurd cc
formula_by false c f g e = absurd cc

written_is : (f g : PlainFormula) → formula_written f ≡ Ok g → (well_sorted f ≡ true) × (f ≡ g)
written_is f g e = formula_by (well_sorted f) (formula_fits f) f g e

-- what is known of the parts where a formula gives one, which is well sorted where the formula is
pub record Parts (head : FormulaHead) (terms : Plains) (kids : PlainFormulas) (x : Result (Option Plains) No) (y : Result (Option PlainFormulas) No) (r : Option PlainFormula) : Type 0 where
  pub terms' : Option Plains
  pub kids' : Option PlainFormulas
  pub terms_are : x ≡ Ok terms'
  pub kids_are : y ≡ Ok kids'
  pub is : unwrap_or r (Says head terms kids) ≡ Says head (unwrap_or terms' terms) (unwrap_or kids' kids)
  pub sorted' : well_sorted (Says head terms kids) ≡ true → well_sorted (Says head (unwrap_or terms' terms) (unwrap_or kids' kids)) ≡ true

some_is : (o r : Option PlainFormula) → ◌≡◌ {A = Result (Option PlainFormula) No} (Ok o) (Ok r) → o ≡ r
some_is o r e = cc

over_is : (f g : PlainFormula) (r : Option PlainFormula) → some_formula (formula_written f) ≡ Ok r → (well_sorted f ≡ true) × (unwrap_or r g ≡ f)
over_is f g r e = by (formula_written f) refl e
  where
    by : (x : Result PlainFormula No) → formula_written f ≡ x → some_formula x ≡ Ok r → (well_sorted f ≡ true) × (unwrap_or r g ≡ f)
    by (Ok made) i j = let p = written_is f made i in (p.0, ap (λ q. unwrap_or q g) (sym (some_is (Some made) r j)) ∙ sym p.1)
    by (Err why) i j = absurd cc

pub parts : (name : List ℕ) (own : Fun) (head : FormulaHead) (terms : Plains) (kids : PlainFormulas) (x : Result (Option Plains) No) (y : Result (Option PlainFormulas) No) (r : Option PlainFormula) → over_both name own head terms kids x y ≡ Ok r → Parts head terms kids x y r
parts name own head terms kids (Ok None) (Ok None) r e =
    record { terms' = None; kids' = None; terms_are = refl; kids_are = refl; is = ap (λ q. unwrap_or q (Says head terms kids)) (sym (some_is None r e)); sorted' = λ w. w }
parts name own head terms kids (Ok None) (Ok (Some fs)) r e =
    let p = over_is (Says head terms fs) (Says head terms kids) r e in
    record { terms' = None; kids' = Some fs; terms_are = refl; kids_are = refl; is = p.1; sorted' = λ w. p.0 }
parts name own head terms kids (Ok (Some ts)) (Ok fs) r e =
    let p = over_is (Says head ts (unwrap_or fs kids)) (Says head terms kids) r e in
    record { terms' = Some ts; kids' = fs; terms_are = refl; kids_are = refl; is = p.1; sorted' = λ w. p.0 }
parts name own head terms kids (Ok None) (Err refusal) r e = absurd cc
parts name own head terms kids (Ok (Some ts)) (Err refusal) r e = absurd cc
parts name own head terms kids (Err refusal) y r e = absurd cc

module _ (defs : Defs) (specs : List ℕ → Value → Bool) (env : Env) (keeps : DefsKeep defs) (name : List ℕ) (own : Fun) (takes : TakesTerms own) (there : funs.fun_of defs.funs name ≡ Some (fun_of (name, own))) where
  suits_below : (scope : Scope) (g : List ℕ → Datum) (x : List ℕ) (s : Sort) (d : Datum) → Suits scope (giving env g) → HasSort s d → Suits ((x, s) ∷ scope) (giving env (put g x d))
  suits_below scope g x s d suits has = record { each = λ v r e. by v r (bytes_eq v x) e }
    where
      by : (v : List ℕ) (r : Sort) (b : Bool) → cond b (Some s) (lookup (bytes_eq v) scope) ≡ Some r → HasSort r (cond b d (g v))
      by v r true e = let same : s ≡ r = cc in subst (λ q. HasSort q d) same has
      by v r false e = suits.each v r e

  abbrev Same : (List ℕ → Datum) → PlainFormula → PlainFormula → Type 0
  Same g f made = Truth defs specs (giving env g) made ↔ Truth defs specs (giving env g) f

  -- below a head, where what stands below it is true where it was
  abbrev Below : ((List ℕ → Datum) → Type 0) → PlainFormulas → Type 0
  Below P kids = (scope : Scope) (g : List ℕ → Datum) → Suits scope (giving env g) → AreAllowed defs scope kids → P g

  over_kept : (scope : Scope) (g : List ℕ → Datum) → Suits scope (giving env g) → (head : FormulaHead) (ts us : Plains) (kids fs : PlainFormulas) → AreAllowed defs (scope_below head scope) kids → Below (λ f. FirstTrue defs specs (giving env f) fs ↔ FirstTrue defs specs (giving env f) kids) kids → Below (λ f. SecondTrue defs specs (giving env f) fs ↔ SecondTrue defs specs (giving env f) kids) kids → (ds : List Datum) → AllMean defs (giving env g) ts ds → AllMean defs (giving env g) us ds → Same g (Says head ts kids) (Says head us fs)
  over_kept scope g suits (Forall x s) ts us kids fs a first second ds m n = (
    λ p d has. (first ((x, s) ∷ scope) (put g x d) (suits_below scope g x s d suits has) a).0 (p d has),
    λ p d has. (first ((x, s) ∷ scope) (put g x d) (suits_below scope g x s d suits has) a).1 (p d has),
  )
  over_kept scope g suits (Exists x s) ts us kids fs a first second ds m n = (
    λ p. (p.0, p.1, (first ((x, s) ∷ scope) (put g x p.0) (suits_below scope g x s p.0 suits p.1) a).0 p.2),
    λ p. (p.0, p.1, (first ((x, s) ∷ scope) (put g x p.0) (suits_below scope g x s p.0 suits p.1) a).1 p.2),
  )
  over_kept scope g suits True ts us kids fs a first second ds m n = (λ p. tt, λ p. tt)
  over_kept scope g suits False ts us kids fs a first second ds m n = (λ p. p, λ p. p)
  over_kept scope g suits Implies ts us kids fs a first second ds m n =
      let one = first scope g suits a in
      let two = second scope g suits a in
      (λ p r. two.0 (p (one.1 r)), λ p r. two.1 (p (one.0 r)))
  over_kept scope g suits Or ts us kids fs a first second ds m n =
      let one = first scope g suits a in
      let two = second scope g suits a in
      (or_map one.0 two.0, or_map one.1 two.1)
  over_kept scope g suits And ts us kids fs a first second ds m n =
      let one = first scope g suits a in
      let two = second scope g suits a in
      (λ p. (one.0 p.0, two.0 p.1), λ p. (one.1 p.0, two.1 p.1))
  over_kept scope g suits head ts us kids fs a first second ds m n = (
    says_of defs specs env g g head us ts (λ es k. subst (AllMean defs (giving env g) ts) (one_list defs n es k) m),
    says_of defs specs env g g head ts us (λ es k. subst (AllMean defs (giving env g) us) (one_list defs m es k) n),
  )

  mutual
    pub formula_kept : (scope : Scope) (g : List ℕ → Datum) → Suits scope (giving env g) → (f : PlainFormula) → well_sorted f ≡ true → IsAllowed defs scope f → (r : Option PlainFormula) → formula_unfolded name own f ≡ Ok r → Same g f (unwrap_or r f)
    formula_kept scope g suits (Says head terms kids) w a r e =
        let t = both_true (takes_all head (sorts_of terms) (length (listed_formulas kids))) (all_well_sorted kids) w in
        let p = parts name own head terms kids (unfolded_in name own terms) (formulas_unfolded name own kids) r e in
        let ss = sorted head terms kids w in
        let all : AllGood defs (giving env g) scope suits keeps name own takes there ss.sorts terms (unwrap_or p.terms' terms) = terms_good defs (giving env g) scope suits keeps name own takes there terms ss.sorts a.0 ss.are p.terms' p.terms_are in
        let v = values defs scope (giving env g) keeps suits terms ss.sorts a.0 ss.are in
        subst (Same g (Says head terms kids)) (sym p.is)
        (over_kept scope g suits head terms (unwrap_or p.terms' terms) kids (unwrap_or p.kids' kids) a.1
        (λ inner q su al. first_kept inner q su kids t.1 al p.kids' p.kids_are) (λ inner q su al. second_kept inner q su kids t.1 al p.kids' p.kids_are) v.0 v.1 (all.kept.mean v.0 v.1))

    first_kept : (scope : Scope) (g : List ℕ → Datum) → Suits scope (giving env g) → (fs : PlainFormulas) → all_well_sorted fs ≡ true → AreAllowed defs scope fs → (q : Option PlainFormulas) → formulas_unfolded name own fs ≡ Ok q → FirstTrue defs specs (giving env g) (unwrap_or q fs) ↔ FirstTrue defs specs (giving env g) fs
    first_kept scope g suits NoFormula w a q e =
        let nothing : None ≡ q = cc in
        subst (λ o. FirstTrue defs specs (giving env g) (unwrap_or o NoFormula) ↔ FirstTrue defs specs (giving env g) NoFormula) nothing (λ p. p, λ p. p)
    first_kept scope g suits (MoreFormulas f fs) w a q e =
        let b = both_are MoreFormulas f fs (formula_unfolded name own f) (formulas_unfolded name own fs) q e in
        subst (λ o. FirstTrue defs specs (giving env g) o ↔ Truth defs specs (giving env g) f) b.is
        (formula_kept scope g suits f (both_true (well_sorted f) (all_well_sorted fs) w).0 a.0 b.first b.first_is)

    second_kept : (scope : Scope) (g : List ℕ → Datum) → Suits scope (giving env g) → (fs : PlainFormulas) → all_well_sorted fs ≡ true → AreAllowed defs scope fs → (q : Option PlainFormulas) → formulas_unfolded name own fs ≡ Ok q → SecondTrue defs specs (giving env g) (unwrap_or q fs) ↔ SecondTrue defs specs (giving env g) fs
    second_kept scope g suits NoFormula w a q e =
        let nothing : None ≡ q = cc in
        subst (λ o. SecondTrue defs specs (giving env g) (unwrap_or o NoFormula) ↔ SecondTrue defs specs (giving env g) NoFormula) nothing (λ p. p, λ p. p)
    second_kept scope g suits (MoreFormulas f fs) w a q e =
        let b = both_are MoreFormulas f fs (formula_unfolded name own f) (formulas_unfolded name own fs) q e in
        subst (λ o. SecondTrue defs specs (giving env g) o ↔ FirstTrue defs specs (giving env g) fs) b.is
        (first_kept scope g suits fs (both_true (well_sorted f) (all_well_sorted fs) w).1 a.1 b.rest b.rest_is)
