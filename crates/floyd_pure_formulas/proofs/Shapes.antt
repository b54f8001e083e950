-- The shapes of formulas by what they say at their heads.
use Rattle.std.proofs.Common.{◌≡◌, ℕ, Bool, true, ◌&&◌, List, ◌∷◌, Option, Some, None, subst}
use Rattle.floyd_tree_sorts.specs.declared.connectives.FormulaHead.TheVariants as f
use Rattle.floyd_tree_sorts.specs.declared.sorts.Sort.{Sort}
use Rattle.floyd_tree_sorts.proofs.SortLemmas.{both_true}
use Rattle.floyd_tree.specs.Formulas.{PlainFormula, PlainFormulas, Says, NoFormula, MoreFormulas, listed_formulas, takes_all, well_sorted}
use Rattle.floyd_tree.specs.Plain.{Plain, Plains, Done, More, listed}
use Rattle.floyd_tree.specs.WellSorted.{sorts_of}
use Rattle.floyd_tree_values.specs.Means.{Defs}
use Rattle.floyd_tree_values.specs.Rules.{Scope}
use Rattle.floyd_goal_formulas.specs.Fits.{Fits}
use Rattle.floyd_goal_formulas.specs.Said.{Saying, Equation, Inequality, Pointer, NotUndefined, OfType, Implication, Either, Both, ForAll, ThereIs, Else, said, of_pair, of_one, pair_of, one_of, last_of}

no_pair : {T : Type 0} (says : T → T → Saying) (o : Option (T × T)) (x : Saying) → ((a b : T) → says a b ≡ x → ⊥) → (Else ≡ x → ⊥) → of_pair says o ≡ x → ⊥
no_pair says None x h k e = k e
no_pair says (Some p) x h k e = h p.0 p.1 e

no_one : {T : Type 0} (says : T → Saying) (o : Option T) (x : Saying) → ((a : T) → says a ≡ x → ⊥) → (Else ≡ x → ⊥) → of_one says o ≡ x → ⊥
no_one says None x h k e = k e
no_one says (Some a) x h k e = h a e

pub record IsForAll (x : List ℕ) (s : Sort) (body : PlainFormula) (a : PlainFormula) : Type 0 where
  pub terms : Plains
  pub is : a ≡ Says (f.Forall x s) terms (MoreFormulas body NoFormula)

pub for_all : (x : List ℕ) (s : Sort) (body : PlainFormula) (a : PlainFormula) → said a ≡ ForAll x s body → IsForAll x s body a
for_all x s body (Says (f.Forall y r) ts fs) e = by fs e
  where
    by : (fs : PlainFormulas) → of_one (ForAll y r) (one_of (listed_formulas fs)) ≡ ForAll x s body → IsForAll x s body (Says (f.Forall y r) ts fs)
    by NoFormula e = absurd cc
    by (MoreFormulas a NoFormula) e =
        let name : y ≡ x = cc in
        let sort : r ≡ s = cc in
        let same : a ≡ body = cc in
        record { terms = ts; is = cc }
    by (MoreFormulas a (MoreFormulas b gs)) e = absurd cc
for_all x s body (Says f.True ts fs) e = absurd cc
for_all x s body (Says f.False ts fs) e = absurd cc
for_all x s body (Says f.Implies ts fs) e = absurd (no_pair Implication (pair_of (listed_formulas fs)) (ForAll x s body) (λ a b i. cc) (λ i. cc) e)
for_all x s body (Says f.Or ts fs) e = absurd (no_pair Either (pair_of (listed_formulas fs)) (ForAll x s body) (λ a b i. cc) (λ i. cc) e)
for_all x s body (Says f.And ts fs) e = absurd (no_pair Both (pair_of (listed_formulas fs)) (ForAll x s body) (λ a b i. cc) (λ i. cc) e)
for_all x s body (Says (f.Exists y r) ts fs) e = absurd (no_one (ThereIs y r) (one_of (listed_formulas fs)) (ForAll x s body) (λ a i. cc) (λ i. cc) e)
for_all x s body (Says f.Equal ts fs) e = absurd (no_pair Equation (pair_of (listed ts)) (ForAll x s body) (λ a b i. cc) (λ i. cc) e)
for_all x s body (Says f.AtMost ts fs) e = absurd (no_pair Inequality (pair_of (listed ts)) (ForAll x s body) (λ a b i. cc) (λ i. cc) e)
for_all x s body (Says f.IsPtr ts fs) e = absurd (no_one Pointer (one_of (listed ts)) (ForAll x s body) (λ a i. cc) (λ i. cc) e)
for_all x s body (Says f.Defined ts fs) e = absurd (no_one NotUndefined (one_of (listed ts)) (ForAll x s body) (λ a i. cc) (λ i. cc) e)
for_all x s body (Says (f.Hasty shape) ts fs) e = absurd (no_one (OfType shape) (last_of (listed ts)) (ForAll x s body) (λ a i. cc) (λ i. cc) e)
for_all x s body (Says (f.Compatible shape path) ts fs) e = absurd cc
for_all x s body (Says (f.FuncPtr name) ts fs) e = absurd cc

pub record IsThereIs (x : List ℕ) (s : Sort) (body : PlainFormula) (a : PlainFormula) : Type 0 where
  pub terms : Plains
  pub is : a ≡ Says (f.Exists x s) terms (MoreFormulas body NoFormula)

pub there_is : (x : List ℕ) (s : Sort) (body : PlainFormula) (a : PlainFormula) → said a ≡ ThereIs x s body → IsThereIs x s body a
there_is x s body (Says (f.Exists y r) ts fs) e = by fs e
  where
    by : (fs : PlainFormulas) → of_one (ThereIs y r) (one_of (listed_formulas fs)) ≡ ThereIs x s body → IsThereIs x s body (Says (f.Exists y r) ts fs)
    by NoFormula e = absurd cc
    by (MoreFormulas a NoFormula) e =
        let name : y ≡ x = cc in
        let sort : r ≡ s = cc in
        let same : a ≡ body = cc in
        record { terms = ts; is = cc }
    by (MoreFormulas a (MoreFormulas b gs)) e = absurd cc
there_is x s body (Says f.True ts fs) e = absurd cc
there_is x s body (Says f.False ts fs) e = absurd cc
there_is x s body (Says f.Implies ts fs) e = absurd (no_pair Implication (pair_of (listed_formulas fs)) (ThereIs x s body) (λ a b i. cc) (λ i. cc) e)
there_is x s body (Says f.Or ts fs) e = absurd (no_pair Either (pair_of (listed_formulas fs)) (ThereIs x s body) (λ a b i. cc) (λ i. cc) e)
there_is x s body (Says f.And ts fs) e = absurd (no_pair Both (pair_of (listed_formulas fs)) (ThereIs x s body) (λ a b i. cc) (λ i. cc) e)
there_is x s body (Says (f.Forall y r) ts fs) e = absurd (no_one (ForAll y r) (one_of (listed_formulas fs)) (ThereIs x s body) (λ a i. cc) (λ i. cc) e)
there_is x s body (Says f.Equal ts fs) e = absurd (no_pair Equation (pair_of (listed ts)) (ThereIs x s body) (λ a b i. cc) (λ i. cc) e)
there_is x s body (Says f.AtMost ts fs) e = absurd (no_pair Inequality (pair_of (listed ts)) (ThereIs x s body) (λ a b i. cc) (λ i. cc) e)
there_is x s body (Says f.IsPtr ts fs) e = absurd (no_one Pointer (one_of (listed ts)) (ThereIs x s body) (λ a i. cc) (λ i. cc) e)
there_is x s body (Says f.Defined ts fs) e = absurd (no_one NotUndefined (one_of (listed ts)) (ThereIs x s body) (λ a i. cc) (λ i. cc) e)
there_is x s body (Says (f.Hasty shape) ts fs) e = absurd (no_one (OfType shape) (last_of (listed ts)) (ThereIs x s body) (λ a i. cc) (λ i. cc) e)
there_is x s body (Says (f.Compatible shape path) ts fs) e = absurd cc
there_is x s body (Says (f.FuncPtr name) ts fs) e = absurd cc

pub record IsEquation (u v : Plain) (a : PlainFormula) : Type 0 where
  pub kids : PlainFormulas
  pub is : a ≡ Says f.Equal (More u (More v Done)) kids

pub equation : (u v : Plain) (a : PlainFormula) → said a ≡ Equation u v → IsEquation u v a
equation u v (Says f.Equal ts fs) e = by ts e
  where
    by : (ts : Plains) → of_pair Equation (pair_of (listed ts)) ≡ Equation u v → IsEquation u v (Says f.Equal ts fs)
    by Done e = absurd cc
    by (More t Done) e = absurd cc
    by (More t (More w Done)) e =
        let first : t ≡ u = cc in
        let second : w ≡ v = cc in
        record { kids = fs; is = cc }
    by (More t (More w (More x ts))) e = absurd cc
equation u v (Says f.True ts fs) e = absurd cc
equation u v (Says f.False ts fs) e = absurd cc
equation u v (Says f.Implies ts fs) e = absurd (no_pair Implication (pair_of (listed_formulas fs)) (Equation u v) (λ a b i. cc) (λ i. cc) e)
equation u v (Says f.Or ts fs) e = absurd (no_pair Either (pair_of (listed_formulas fs)) (Equation u v) (λ a b i. cc) (λ i. cc) e)
equation u v (Says f.And ts fs) e = absurd (no_pair Both (pair_of (listed_formulas fs)) (Equation u v) (λ a b i. cc) (λ i. cc) e)
equation u v (Says (f.Forall x s) ts fs) e = absurd (no_one (ForAll x s) (one_of (listed_formulas fs)) (Equation u v) (λ a i. cc) (λ i. cc) e)
equation u v (Says (f.Exists x s) ts fs) e = absurd (no_one (ThereIs x s) (one_of (listed_formulas fs)) (Equation u v) (λ a i. cc) (λ i. cc) e)
equation u v (Says f.AtMost ts fs) e = absurd (no_pair Inequality (pair_of (listed ts)) (Equation u v) (λ a b i. cc) (λ i. cc) e)
equation u v (Says f.IsPtr ts fs) e = absurd (no_one Pointer (one_of (listed ts)) (Equation u v) (λ a i. cc) (λ i. cc) e)
equation u v (Says f.Defined ts fs) e = absurd (no_one NotUndefined (one_of (listed ts)) (Equation u v) (λ a i. cc) (λ i. cc) e)
equation u v (Says (f.Hasty shape) ts fs) e = absurd (no_one (OfType shape) (last_of (listed ts)) (Equation u v) (λ a i. cc) (λ i. cc) e)
equation u v (Says (f.Compatible shape path) ts fs) e = absurd cc
equation u v (Says (f.FuncPtr name) ts fs) e = absurd cc

pub record IsBoth (b c : PlainFormula) (a : PlainFormula) : Type 0 where
  pub terms : Plains
  pub is : a ≡ Says f.And terms (MoreFormulas b (MoreFormulas c NoFormula))

pub both : (b c : PlainFormula) (a : PlainFormula) → said a ≡ Both b c → IsBoth b c a
both b c (Says f.And ts fs) e = by fs e
  where
    by : (fs : PlainFormulas) → of_pair Both (pair_of (listed_formulas fs)) ≡ Both b c → IsBoth b c (Says f.And ts fs)
    by NoFormula e = absurd cc
    by (MoreFormulas g NoFormula) e = absurd cc
    by (MoreFormulas g (MoreFormulas h NoFormula)) e =
        let first : g ≡ b = cc in
        let second : h ≡ c = cc in
        record { terms = ts; is = cc }
    by (MoreFormulas g (MoreFormulas h (MoreFormulas k gs))) e = absurd cc
both b c (Says f.True ts fs) e = absurd cc
both b c (Says f.False ts fs) e = absurd cc
both b c (Says f.Implies ts fs) e = absurd (no_pair Implication (pair_of (listed_formulas fs)) (Both b c) (λ t u i. cc) (λ i. cc) e)
both b c (Says f.Or ts fs) e = absurd (no_pair Either (pair_of (listed_formulas fs)) (Both b c) (λ t u i. cc) (λ i. cc) e)
both b c (Says (f.Forall x s) ts fs) e = absurd (no_one (ForAll x s) (one_of (listed_formulas fs)) (Both b c) (λ a i. cc) (λ i. cc) e)
both b c (Says (f.Exists x s) ts fs) e = absurd (no_one (ThereIs x s) (one_of (listed_formulas fs)) (Both b c) (λ a i. cc) (λ i. cc) e)
both b c (Says f.Equal ts fs) e = absurd (no_pair Equation (pair_of (listed ts)) (Both b c) (λ t u i. cc) (λ i. cc) e)
both b c (Says f.AtMost ts fs) e = absurd (no_pair Inequality (pair_of (listed ts)) (Both b c) (λ t u i. cc) (λ i. cc) e)
both b c (Says f.IsPtr ts fs) e = absurd (no_one Pointer (one_of (listed ts)) (Both b c) (λ a i. cc) (λ i. cc) e)
both b c (Says f.Defined ts fs) e = absurd (no_one NotUndefined (one_of (listed ts)) (Both b c) (λ a i. cc) (λ i. cc) e)
both b c (Says (f.Hasty shape) ts fs) e = absurd (no_one (OfType shape) (last_of (listed ts)) (Both b c) (λ a i. cc) (λ i. cc) e)
both b c (Says (f.Compatible shape path) ts fs) e = absurd cc
both b c (Says (f.FuncPtr name) ts fs) e = absurd cc

-- what stands below a quantifier is well formed where its variable is one more
module _ (defs : Defs) (scope : Scope) (x : List ℕ) (s : Sort) (body : PlainFormula) where
  below_quantifier : (b : Bool) → (b && (well_sorted body && true)) ≡ true → well_sorted body ≡ true
  below_quantifier b h = (both_true (well_sorted body) true (both_true b (well_sorted body && true) h).1).0

  pub for_all_fits : (a : PlainFormula) → IsForAll x s body a → Fits defs scope a → Fits defs ((x, s) ∷ scope) body
  for_all_fits a i fit =
      let g : Fits defs scope (Says (f.Forall x s) i.terms (MoreFormulas body NoFormula)) = subst (Fits defs scope) i.is fit in
      record { sorted = below_quantifier (takes_all (f.Forall x s) (sorts_of i.terms) 1) g.sorted; allowed = g.allowed.1.0 }

  pub there_is_fits : (a : PlainFormula) → IsThereIs x s body a → Fits defs scope a → Fits defs ((x, s) ∷ scope) body
  there_is_fits a i fit =
      let g : Fits defs scope (Says (f.Exists x s) i.terms (MoreFormulas body NoFormula)) = subst (Fits defs scope) i.is fit in
      record { sorted = below_quantifier (takes_all (f.Exists x s) (sorts_of i.terms) 1) g.sorted; allowed = g.allowed.1.0 }
