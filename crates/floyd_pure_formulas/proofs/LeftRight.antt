-- A goal is true where a side of it is.
use Rattle.std.proofs.Common.{◌≡◌, List, [], ◌∷◌, Ok, refl, sym, subst, inl, inr}
use Rattle.floyd_tree.specs.Formulas.{PlainFormula}
use Rattle.floyd_goal_trees.specs.declared.context.Context.{Context}
use Rattle.floyd_goal_trees.specs.declared.goal.Goal.{Goal}
use Rattle.floyd_goal.specs.Goals.{pure_goal}
use Rattle.floyd_goal_formulas.specs.Said.{Saying, Either, said}
use Rattle.floyd_goal_formulas.proofs.Sayings.{SaidTrue, said_truth}
use Rattle.floyd_goal_truth.specs.Scopes.{scope_of}
use Rattle.floyd_pure_formulas.specs.Keeps.{AreTrueFrom, KeepsTruth}
use Rattle.floyd_pure_formulas.specs.LeftRight.{LeftRow, RightRow, left_of, right_of}
use Rattle.floyd_pure_formulas.proofs.Going.{itself}
use Rattle.floyd_pure_formulas.proofs.Rowing.{goals_are, no_goals}

record OneSide (context : Context) (s : Saying) (goals : List Goal) (side : PlainFormula → PlainFormula → PlainFormula) : Type 0 where
  pub left : PlainFormula
  pub right : PlainFormula
  pub says : s ≡ Either left right
  pub made : goals ≡ pure_goal context (side left right) ∷ []

left_by : (context : Context) (s : Saying) (goals : List Goal) → Ok goals ≡ left_of context s → OneSide context s goals (λ a b. a)
left_by context (Either a b) goals e = record { left = a; right = b; says = refl; made = goals_are goals (pure_goal context a ∷ []) e }
left_by context s goals e = absurd (no_goals goals _ e)

right_by : (context : Context) (s : Saying) (goals : List Goal) → Ok goals ≡ right_of context s → OneSide context s goals (λ a b. b)
right_by context (Either a b) goals e = record { left = a; right = b; says = refl; made = goals_are goals (pure_goal context b ∷ []) e }
right_by context s goals e = absurd (no_goals goals _ e)

pub left_true : KeepsTruth LeftRow
left_true defs specs pure args goals keeps hyps_fit fit args_fit row env suits hyps proved =
    let p = left_by pure.context (said pure.target) goals row in
    let one : AreTrueFrom defs specs pure.context env (pure_goal pure.context p.left ∷ []) = subst (AreTrueFrom defs specs pure.context env) p.made proved in
    said_truth defs specs (scope_of pure.context) env keeps suits pure.target fit
    (subst (SaidTrue defs specs env ⊥) (sym p.says) (inl (one.0 env suits hyps (itself pure.context env))))

pub right_true : KeepsTruth RightRow
right_true defs specs pure args goals keeps hyps_fit fit args_fit row env suits hyps proved =
    let p = right_by pure.context (said pure.target) goals row in
    let one : AreTrueFrom defs specs pure.context env (pure_goal pure.context p.right ∷ []) = subst (AreTrueFrom defs specs pure.context env) p.made proved in
    said_truth defs specs (scope_of pure.context) env keeps suits pure.target fit
    (subst (SaidTrue defs specs env ⊥) (sym p.says) (inr (one.0 env suits hyps (itself pure.context env))))
