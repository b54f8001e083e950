-- Formulas are true where those that need a proof are.
use Rattle.std.proofs.Common.{◌≡◌, ℕ, Bool, List, [], ◌∷◌, Option, Some, None, All, refl, sym, subst, ⊎_elim}
use Rattle.std.proofs.lemmas.List.Elements.{All-head, All-tail}
use Rattle.floyd_int.specs.declared.kinds.Value.{Value}
use Rattle.floyd_tree.specs.Formulas.{PlainFormula}
use Rattle.floyd_tree_values.specs.BuiltIns.{Env}
use Rattle.floyd_tree_values.specs.Means.{Defs}
use Rattle.floyd_tree_values.specs.Rules.{Scope, Suits, DefsKeep}
use Rattle.floyd_truth.specs.Truth.{Truth, AllTrue}
use Rattle.floyd_goal_formulas.specs.Fits.{Fits}
use Rattle.floyd_goal_formulas.specs.Keeping.{Kept, before, conjunction}
use Rattle.floyd_goal_formulas.proofs.Dropped.{drops_true}

module _ (defs : Defs) (specs : List ℕ → Value → Bool) (env : Env) where
  -- those that are kept are true where all are
  pub kept_of_true : (hs fs kept : List PlainFormula) → Kept hs fs kept → AllTrue defs specs env fs → AllTrue defs specs env kept
  kept_of_true hs [] kept k t = subst (AllTrue defs specs env) (sym k) tt
  kept_of_true hs (a ∷ fs) kept k t =
      ⊎_elim (λ p. kept_of_true hs fs kept p.1 t.1) (λ p. subst (AllTrue defs specs env) (sym p.1.2) (t.0, kept_of_true hs fs p.1.0 p.1.1 t.1)) k

module _ (defs : Defs) (specs : List ℕ → Value → Bool) (scope : Scope) (env : Env) (keeps : DefsKeep defs) (suits : Suits scope env) where
  -- where those that are kept are true, all are
  pub kept_true : (hs fs kept : List PlainFormula) → All (Fits defs scope) fs → Kept hs fs kept → AllTrue defs specs env hs → AllTrue defs specs env kept → AllTrue defs specs env fs
  kept_true hs [] kept fit k t u = tt
  kept_true hs (a ∷ fs) kept fit k t u =
      ⊎_elim (λ p. (drops_true defs specs scope env keeps suits hs a (All-head (Fits defs scope) a fs fit) p.0 t, kept_true hs fs kept (All-tail (Fits defs scope) a fs fit) p.1 t u))
      (λ p.
      let w : AllTrue defs specs env (a ∷ p.1.0) = subst (AllTrue defs specs env) p.1.2 u in
      (w.0, kept_true hs fs p.1.0 (All-tail (Fits defs scope) a fs fit) p.1.1 t w.1))
      k

  before_true : (a : PlainFormula) (o : Option PlainFormula) → Truth defs specs env (before a o) → Truth defs specs env a × ((b : PlainFormula) → o ≡ Some b → Truth defs specs env b)
  before_true a None t = (t, λ b e. absurd cc)
  before_true a (Some c) t = (t.0, λ b e. let same : c ≡ b = cc in subst (Truth defs specs env) same t.1)

  pub conjunction_true : (fs : List PlainFormula) → ((b : PlainFormula) → conjunction fs ≡ Some b → Truth defs specs env b) → AllTrue defs specs env fs
  conjunction_true [] h = tt
  conjunction_true (a ∷ fs) h = let p = before_true a (conjunction fs) (h (before a (conjunction fs)) refl) in (p.0, conjunction_true fs p.1)
