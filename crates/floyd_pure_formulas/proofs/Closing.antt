-- Goals that are closed are true.
use Rattle.std.proofs.Common.{List, [], ◌∷◌, inl, inr}
use Rattle.floyd_tree.specs.Formulas.{PlainFormula}
use Rattle.floyd_tree_values.specs.BuiltIns.{Env}
use Rattle.floyd_tree_values.specs.Means.{Defs}
use Rattle.floyd_truth.specs.Truth.{AllTrue, Truth}
use Rattle.floyd_goal_formulas.specs.Drops.{Alone}
use Rattle.floyd_goal_formulas.specs.Said.{Saying, Equation, said}
use Rattle.floyd_goal_formulas.proofs.Dropped.{drops_true}
use Rattle.floyd_goal_formulas.proofs.Literals.{absurd_false}
use Rattle.floyd_goal_truth.specs.Scopes.{scope_of}
use Rattle.floyd_pure_formulas.specs.Holds.{Specs}
use Rattle.floyd_pure_formulas.specs.Keeps.{KeepsTruth}
use Rattle.floyd_pure_formulas.specs.Refl.{IsIdentity, ReflRow}
use Rattle.floyd_pure_formulas.specs.Rows.{Closes}
use Rattle.floyd_pure_formulas.specs.Trivial.{HasAbsurd, TrivialRow, IsTrivial}
use Rattle.floyd_pure_formulas.proofs.Rowing.{provided}

identity_said : (s : Saying) → IsIdentity s → Alone s
identity_said (Equation a b) e = e
identity_said s e = absurd e

pub refl_true : KeepsTruth ReflRow
refl_true defs specs pure args goals keeps hyps_fit fit args_fit row env suits hyps proved =
    let p = provided (IsIdentity (said pure.target)) _ Closes goals row in
    drops_true defs specs (scope_of pure.context) env keeps suits pure.context.hypotheses pure.target fit (inl (identity_said (said pure.target) p.0)) hyps

absurd_among : (defs : Defs) (specs : Specs) (env : Env) (hs : List PlainFormula) → HasAbsurd hs → AllTrue defs specs env hs → ⊥
absurd_among defs specs env [] h t = h
absurd_among defs specs env (a ∷ hs) (inl h) t = absurd_false defs specs env a h t.0
absurd_among defs specs env (a ∷ hs) (inr h) t = absurd_among defs specs env hs h t.1

pub trivial_true : KeepsTruth TrivialRow
trivial_true defs specs pure args goals keeps hyps_fit fit args_fit row env suits hyps proved = by (provided (IsTrivial pure) _ Closes goals row).0
  where
    by : IsTrivial pure → Truth defs specs env pure.target
    by (inl d) = drops_true defs specs (scope_of pure.context) env keeps suits pure.context.hypotheses pure.target fit d hyps
    by (inr h) = absurd (absurd_among defs specs env pure.context.hypotheses h hyps)
