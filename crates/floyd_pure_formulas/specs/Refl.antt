-- `refl` closes an equation of identical terms.
use Rattle.std.specs.Prelude.{◌≡◌}
use Rattle.floyd_text.specs.declared.code.Code.TheVariants as c
use Rattle.floyd_goal_trees.specs.declared.goal.Pure.{Pure}
use Rattle.floyd_goal.specs.Goals.{refusal}
use Rattle.floyd_goal_formulas.specs.Said.{Saying, Equation, said}
use Rattle.floyd_pure_formulas.specs.Rows.{Answer, Row, Closes, OfPure, Provided}

abbrev pub IsIdentity : Saying → Type 0
IsIdentity (Equation a b) = a ≡ b
IsIdentity saying = ⊥

abbrev pub ClosesEqual : Pure → Answer → Type 0
ClosesEqual pure answer = Provided (IsIdentity (said pure.target)) (refusal c.NotEqual) Closes answer

abbrev pub ReflRow : Row
ReflRow goal args answer = OfPure goal ClosesEqual answer
