-- What is known where a row gives goals.
use Rattle.std.proofs.Common.{◌≡◌, Bool, true, false, List, [], ◌∷◌, ◌++◌, Option, Some, None, Result, Ok, Err, refl, inl, inr}
use Rattle.floyd_text.specs.declared.refusal.No.{No}
use Rattle.floyd_tree.specs.Formulas.{PlainFormula}
use Rattle.floyd_goal_trees.specs.declared.goal.Goal.{Goal}
use Rattle.floyd_goal.specs.declared.side_goals.Sides.{Sides}
use Rattle.floyd_pure_formulas.specs.Rows.{Answer, Unless, Provided, OfFound, after_side, concluded, with_more}

pub goals_are : (goals others : List Goal) → ◌≡◌ {A = Answer} (Ok goals) (Ok others) → goals ≡ others
goals_are goals others e = cc

pub no_goals : (goals : List Goal) (refusal : No) → ◌≡◌ {A = Answer} (Ok goals) (Err refusal) → ⊥
no_goals goals refusal e = cc

pub passed : (test : Bool) (refusal : No) (Next : Answer → Type 0) (goals : List Goal) → Unless test refusal Next (Ok goals) → Next (Ok goals)
passed true refusal Next goals row = absurd (no_goals goals refusal row)
passed false refusal Next goals row = row

pub provided : (P : Type 0) (refusal : No) (Next : Answer → Type 0) (goals : List Goal) → Provided P refusal Next (Ok goals) → P × Next (Ok goals)
provided P refusal Next goals (inl p) = p
provided P refusal Next goals (inr p) = absurd (no_goals goals refusal p.1)

pub found : (o : Option PlainFormula) (refusal : No) (Next : PlainFormula → Answer → Type 0) (goals : List Goal) → OfFound o refusal Next (Ok goals) → (h : PlainFormula) × (o ≡ Some h) × Next h (Ok goals)
found None refusal Next goals row = absurd (no_goals goals refusal row)
found (Some h) refusal Next goals row = (h, refl, row)

pub sides_found : (goal : Goal) (c : PlainFormula) (r : Result Sides No) (goals : List Goal) → Ok goals ≡ concluded goal c r → (s : Sides) × (r ≡ Ok s) × (goals ≡ after_side s.goal (with_more goal (s.kept ++ c ∷ []) ∷ []))
sides_found goal c (Ok s) goals e = (s, refl, goals_are goals (after_side s.goal (with_more goal (s.kept ++ c ∷ []) ∷ [])) e)
sides_found goal c (Err refusal) goals e = absurd (no_goals goals refusal e)
