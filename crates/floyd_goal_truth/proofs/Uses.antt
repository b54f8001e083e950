-- What the rules use: hypotheses by number, parts of well-formed formulas, and truth under more hypotheses.
use Rattle.std.proofs.Common.{◌≡◌, ℕ, zero, suc, Bool, List, [], ◌∷◌, ◌++◌, Option, Some, None, All, refl, subst}
use Rattle.std.specs.Prelude.{slice_get}
use Rattle.std.proofs.lemmas.List.Elements.{All-head, All-tail}
use Rattle.floyd_int.specs.declared.kinds.Value.{Value}
use Rattle.floyd_tree_sorts.specs.declared.connectives.FormulaHead.TheVariants as f
use Rattle.floyd_tree.specs.Formulas.{PlainFormula, Says, NoFormula, MoreFormulas, listed_formulas}
use Rattle.floyd_tree.specs.Plain.{Plain, listed}
use Rattle.floyd_tree_values.specs.BuiltIns.{Env}
use Rattle.floyd_tree_values.specs.Means.{Defs}
use Rattle.floyd_tree_values.specs.Rules.{Scope}
use Rattle.floyd_truth.specs.Truth.{Truth, AllTrue}
use Rattle.floyd_goal.specs.Goals.{hypothesis_at}
use Rattle.floyd_goal_formulas.specs.Said.{Saying, Equation, Inequality, Pointer, NotUndefined, OfType, Implication, Either, Both, ForAll, ThereIs, said, of_pair, of_one, pair_of, one_of, last_of}
use Rattle.floyd_goal_formulas.specs.Fits.{Fits}
use Rattle.floyd_goal_formulas.proofs.Literals.{kids_fit}

module _ (defs : Defs) (specs : List ℕ → Value → Bool) (env : Env) where
  pub true_at : (hs : List PlainFormula) (k : ℕ) (h : PlainFormula) → slice_get hs k ≡ Some h → AllTrue defs specs env hs → Truth defs specs env h
  true_at [] k h e t = absurd cc
  true_at (g ∷ gs) zero h e t = let same : g ≡ h = cc in subst (Truth defs specs env) same t.0
  true_at (g ∷ gs) (suc k) h e t = true_at gs k h e t.1

  pub hypothesis_true : (hs : List PlainFormula) (k : ℕ) (h : PlainFormula) → hypothesis_at hs k ≡ Some h → AllTrue defs specs env hs → Truth defs specs env h
  hypothesis_true hs zero h e t = absurd cc
  hypothesis_true hs (suc k) h e t = true_at hs k h e t

  pub all_true : (fs gs : List PlainFormula) → AllTrue defs specs env fs → AllTrue defs specs env gs → AllTrue defs specs env (fs ++ gs)
  all_true [] gs p q = q
  all_true (a ∷ fs) gs p q = (p.0, all_true fs gs p.1 q)

module _ (defs : Defs) (scope : Scope) where
  fit_at : (hs : List PlainFormula) (k : ℕ) (h : PlainFormula) → slice_get hs k ≡ Some h → All (Fits defs scope) hs → Fits defs scope h
  fit_at [] k h e t = absurd cc
  fit_at (g ∷ gs) zero h e t = let same : g ≡ h = cc in subst (Fits defs scope) same (All-head (Fits defs scope) g gs t)
  fit_at (g ∷ gs) (suc k) h e t = fit_at gs k h e (All-tail (Fits defs scope) g gs t)

  pub hypothesis_fits : (hs : List PlainFormula) (k : ℕ) (h : PlainFormula) → hypothesis_at hs k ≡ Some h → All (Fits defs scope) hs → Fits defs scope h
  hypothesis_fits hs zero h e t = absurd cc
  hypothesis_fits hs (suc k) h e t = fit_at hs k h e t

  -- both formulas of a connective are well formed
  abbrev pub PartsFit : Saying → Type 0
  PartsFit (Implication a b) = Fits defs scope a × Fits defs scope b
  PartsFit (Either a b) = Fits defs scope a × Fits defs scope b
  PartsFit (Both a b) = Fits defs scope a × Fits defs scope b
  PartsFit saying = Unit {0}

  of_terms : (says : Plain → Plain → Saying) (o : Option (Plain × Plain)) → ((a b : Plain) → PartsFit (says a b)) → PartsFit (of_pair says o)
  of_terms says None h = tt
  of_terms says (Some p) h = h p.0 p.1

  of_any : {T : Type 0} (says : T → Saying) (o : Option T) → ((a : T) → PartsFit (says a)) → PartsFit (of_one says o)
  of_any says None h = tt
  of_any says (Some a) h = h a

  pub parts_fit : (a : PlainFormula) → Fits defs scope a → PartsFit (said a)
  parts_fit (Says f.Implies ts NoFormula) fit = tt
  parts_fit (Says f.Implies ts (MoreFormulas a NoFormula)) fit = tt
  parts_fit (Says f.Implies ts (MoreFormulas a (MoreFormulas b NoFormula))) fit = kids_fit defs scope ts f.Implies a b refl fit
  parts_fit (Says f.Implies ts (MoreFormulas a (MoreFormulas b (MoreFormulas c fs)))) fit = tt
  parts_fit (Says f.Or ts NoFormula) fit = tt
  parts_fit (Says f.Or ts (MoreFormulas a NoFormula)) fit = tt
  parts_fit (Says f.Or ts (MoreFormulas a (MoreFormulas b NoFormula))) fit = kids_fit defs scope ts f.Or a b refl fit
  parts_fit (Says f.Or ts (MoreFormulas a (MoreFormulas b (MoreFormulas c fs)))) fit = tt
  parts_fit (Says f.And ts NoFormula) fit = tt
  parts_fit (Says f.And ts (MoreFormulas a NoFormula)) fit = tt
  parts_fit (Says f.And ts (MoreFormulas a (MoreFormulas b NoFormula))) fit = kids_fit defs scope ts f.And a b refl fit
  parts_fit (Says f.And ts (MoreFormulas a (MoreFormulas b (MoreFormulas c fs)))) fit = tt
  parts_fit (Says f.True ts fs) fit = tt
  parts_fit (Says f.False ts fs) fit = tt
  parts_fit (Says (f.Forall x s) ts fs) fit = of_any (ForAll x s) (one_of (listed_formulas fs)) (λ a. tt)
  parts_fit (Says (f.Exists x s) ts fs) fit = of_any (ThereIs x s) (one_of (listed_formulas fs)) (λ a. tt)
  parts_fit (Says f.Equal ts fs) fit = of_terms Equation (pair_of (listed ts)) (λ a b. tt)
  parts_fit (Says f.AtMost ts fs) fit = of_terms Inequality (pair_of (listed ts)) (λ a b. tt)
  parts_fit (Says f.IsPtr ts fs) fit = of_any Pointer (one_of (listed ts)) (λ a. tt)
  parts_fit (Says f.Defined ts fs) fit = of_any NotUndefined (one_of (listed ts)) (λ a. tt)
  parts_fit (Says (f.Hasty shape) ts fs) fit = of_any (OfType shape) (last_of (listed ts)) (λ a. tt)
  parts_fit (Says (f.Compatible shape path) ts fs) fit = tt
  parts_fit (Says (f.FuncPtr name) ts fs) fit = tt
