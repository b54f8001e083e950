-- A formula that needs no proof is true.
use Rattle.std.proofs.Common.{ℕ, Bool, true, List, [], ◌∷◌, ⊎_elim}
use Rattle.floyd_int.specs.declared.kinds.Value.{Value}
use Rattle.floyd_tree.specs.Formulas.{PlainFormula}
use Rattle.floyd_tree_values.specs.BuiltIns.{Env}
use Rattle.floyd_tree_values.specs.Means.{Defs}
use Rattle.floyd_tree_values.specs.Rules.{Scope, Suits, DefsKeep}
use Rattle.floyd_truth.specs.Truth.{Truth, AllTrue}
use Rattle.floyd_truth.proofs.OneTruth.{one_truth}
use Rattle.floyd_goal_formulas.specs.Drops.{Drops, Given}
use Rattle.floyd_goal_formulas.specs.Fits.{Fits}
use Rattle.floyd_goal_formulas.specs.Said.{said}
use Rattle.floyd_goal_formulas.proofs.Alone.{alone_said, gives_said}
use Rattle.floyd_goal_formulas.proofs.Literals.{known_holds}
use Rattle.floyd_goal_formulas.proofs.Sayings.{truth_said, said_truth, values_said}

module _ (defs : Defs) (specs : List ℕ → Value → Bool) (scope : Scope) (env : Env) (keeps : DefsKeep defs) (suits : Suits scope env) where
  given_true : (hs : List PlainFormula) (a : PlainFormula) → Fits defs scope a → Given hs a → AllTrue defs specs env hs → Truth defs specs env a
  given_true [] a fit g t = absurd g
  given_true (h ∷ hs) a fit g t = ⊎_elim (λ p. ⊎_elim (λ same. (one_truth defs specs env h a same).0 t.0) (λ q. said_truth defs specs scope env keeps suits a fit (gives_said defs specs env (said h) (said a) q (truth_said defs specs env h t.0) (values_said defs specs scope env keeps suits a fit))) p) (λ p. given_true hs a fit p t.1) g

  -- a formula that needs no proof is true
  pub drops_true : (hs : List PlainFormula) (a : PlainFormula) → Fits defs scope a → Drops hs a → AllTrue defs specs env hs → Truth defs specs env a
  drops_true hs a fit d t = ⊎_elim (λ p. said_truth defs specs scope env keeps suits a fit (alone_said defs specs env (said a) p (values_said defs specs scope env keeps suits a fit))) (λ p. ⊎_elim (λ q. known_holds defs specs scope env keeps suits a fit true q) (λ q. given_true hs a fit q t) p) d
