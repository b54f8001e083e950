-- The truth of a formula depends on the variables of its scope alone.
use Rattle.std.proofs.Common.{◌≡◌, ℕ, Bool, true, false, ◌||◌, ◌⊎◌, inl, inr, ⊎_elim, List, ◌∷◌, Some, refl, sym, ap, subst, ◌∙◌, cond}
use Rattle.std.specs.Prelude.{bytes_eq}
use Rattle.std.specs.Map.{lookup}
use Rattle.std.proofs.lemmas.Slice.Eq.{bytes_eq-Decides}
use Rattle.floyd_int.specs.declared.kinds.Value.{Value}
use Rattle.floyd_ctypes.specs.Structs.{Structs}
use Rattle.floyd_tree_sorts.specs.declared.connectives.FormulaHead.TheVariants.{True, False, Implies, Or, And, Forall, Exists}
use Rattle.floyd_tree_sorts.specs.declared.heads.Head.TheVariants.{Variable}
use Rattle.floyd_tree_sorts.specs.declared.sorts.Sort.{Sort}
use Rattle.floyd_tree.specs.Formulas.{PlainFormula, PlainFormulas, Says, NoFormula, MoreFormulas}
use Rattle.floyd_tree.specs.Plain.{Plain, Plains, At, Done, More, mentions, mentions_in}
use Rattle.floyd_tree_values.specs.BuiltIns.{Env}
use Rattle.floyd_tree_values.specs.Data.{Datum}
use Rattle.floyd_tree_values.specs.Means.{Defs, AllMean, more, none}
use Rattle.floyd_tree_values.proofs.OneValue.{no_data, split}
use Rattle.floyd_tree_values.specs.Rules.{Scope, Calls, CallsOf, EachAllowed, AllAllowed}
use Rattle.floyd_truth.specs.Truth.{Truth, FirstTrue, SecondTrue}
use Rattle.floyd_truth.proofs.Fresh.{or_left, or_right}
use Rattle.floyd_truth.proofs.OneTruth.{giving, put, says_of}
use Rattle.floyd_truth.proofs.Tracks.{means_like}
use Rattle.floyd_goal_formulas.specs.Fits.{IsAllowed, AreAllowed}

-- both give the same to the variables of the scope
abbrev pub Like : Scope → (List ℕ → Datum) → (List ℕ → Datum) → Type 0
Like scope f g = (v : List ℕ) (r : Sort) → lookup (bytes_eq v) scope ≡ Some r → f v ≡ g v

pub like_back : (scope : Scope) (f g : List ℕ → Datum) → Like scope f g → Like scope g f
like_back scope f g h v r e = sym (h v r e)

pub like_below : (scope : Scope) (f g : List ℕ → Datum) → Like scope f g → (x : List ℕ) (s : Sort) (d : Datum) → Like ((x, s) ∷ scope) (put f x d) (put g x d)
like_below scope f g h x s d v r e = by (bytes_eq v x) e
  where
    by : (b : Bool) → cond b (Some s) (lookup (bytes_eq v) scope) ≡ Some r → cond b d (f v) ≡ cond b d (g v)
    by true e = refl
    by false e = h v r e

either : (a b : Bool) → (a || b) ≡ true → (a ≡ true) ⊎ (b ≡ true)
either true b h = inl refl
either false b h = inr h

module _ (structs : Structs) (scope : Scope) (calls : Calls) where
  abbrev Known : List ℕ → Type 0
  Known v = (r : Sort) × (lookup (bytes_eq v) scope ≡ Some r)

  variable_known : (x v : List ℕ) (s : Sort) → lookup (bytes_eq x) scope ≡ Some s → bytes_eq v x ≡ true → Known v
  variable_known x v s a h = let same : v ≡ x = (bytes_eq-Decides v x).0 h in (s, ap (λ n. lookup (bytes_eq n) scope) same ∙ a)

  mutual
    mentioned : (t : Plain) → EachAllowed structs scope calls t → (v : List ℕ) → mentions v t ≡ true → Known v
    mentioned (At (Variable x s) ts) a v h =
        ⊎_elim (λ e. variable_known x v s a.0 e) (λ e. all_mentioned ts a.1 v e) (either (bytes_eq v x) (mentions_in v ts) h)
    mentioned (At head ts) a v h = all_mentioned ts a.1 v h

    all_mentioned : (ts : Plains) → AllAllowed structs scope calls ts → (v : List ℕ) → mentions_in v ts ≡ true → Known v
    all_mentioned Done a v h = absurd cc
    all_mentioned (More t ts) a v h =
        ⊎_elim (λ e. mentioned t a.0 v e) (λ e. all_mentioned ts a.1 v e) (either (mentions v t) (mentions_in v ts) h)

module _ (defs : Defs) (specs : List ℕ → Value → Bool) (env : Env) where
  all_like : (f g : List ℕ → Datum) (ts : Plains) → ((v : List ℕ) → mentions_in v ts ≡ true → f v ≡ g v) → (ds : List Datum) → AllMean defs (giving env f) ts ds → AllMean defs (giving env g) ts ds
  all_like f g Done k ds m = subst (AllMean defs (giving env g) Done) (sym (no_data m)) none
  all_like f g (More t ts) k ds m =
      let p = split m in
      subst (AllMean defs (giving env g) (More t ts)) (sym p.is)
      (more (means_like defs env f g t (λ v e. k v (or_left (mentions v t) (mentions_in v ts) e)) p.datum p.first) (all_like f g ts (λ v e. k v (or_right (mentions v t) (mentions_in v ts) e)) p.data' p.rest))

  terms_like : (scope : Scope) (f g : List ℕ → Datum) → Like scope f g → (ts : Plains) → AllAllowed defs.structs scope (CallsOf defs.funs) ts → (ds : List Datum) → AllMean defs (giving env f) ts ds → AllMean defs (giving env g) ts ds
  terms_like scope f g h ts a ds m =
      all_like f g ts (λ v e. let k = all_mentioned defs.structs scope (CallsOf defs.funs) ts a v e in h v k.0 k.1) ds m

  mutual
    pub truth_like : (scope : Scope) (f g : List ℕ → Datum) → Like scope f g → (a : PlainFormula) → IsAllowed defs scope a → Truth defs specs (giving env f) a → Truth defs specs (giving env g) a
    truth_like scope f g h (Says (Forall x s) ts fs) k p = λ d e. first_like ((x, s) ∷ scope) (put f x d) (put g x d) (like_below scope f g h x s d) fs k.1 (p d e)
    truth_like scope f g h (Says (Exists x s) ts fs) k p = (p.0, p.1, first_like ((x, s) ∷ scope) (put f x p.0) (put g x p.0) (like_below scope f g h x s p.0) fs k.1 p.2)
    truth_like scope f g h (Says True ts fs) k p = tt
    truth_like scope f g h (Says False ts fs) k p = p
    truth_like scope f g h (Says Implies ts fs) k p = λ q. second_like scope f g h fs k.1 (p (first_like scope g f (like_back scope f g h) fs k.1 q))
    truth_like scope f g h (Says Or ts fs) k (inl p) = inl (first_like scope f g h fs k.1 p)
    truth_like scope f g h (Says Or ts fs) k (inr p) = inr (second_like scope f g h fs k.1 p)
    truth_like scope f g h (Says And ts fs) k p = (first_like scope f g h fs k.1 p.0, second_like scope f g h fs k.1 p.1)
    truth_like scope f g h (Says head ts fs) k p = says_of defs specs env f g head ts ts (terms_like scope f g h ts k.0) p

    first_like : (scope : Scope) (f g : List ℕ → Datum) → Like scope f g → (fs : PlainFormulas) → AreAllowed defs scope fs → FirstTrue defs specs (giving env f) fs → FirstTrue defs specs (giving env g) fs
    first_like scope f g h NoFormula k p = p
    first_like scope f g h (MoreFormulas a fs) k p = truth_like scope f g h a k.0 p

    second_like : (scope : Scope) (f g : List ℕ → Datum) → Like scope f g → (fs : PlainFormulas) → AreAllowed defs scope fs → SecondTrue defs specs (giving env f) fs → SecondTrue defs specs (giving env g) fs
    second_like scope f g h NoFormula k p = p
    second_like scope f g h (MoreFormulas a fs) k p = first_like scope f g h fs k.1 p
