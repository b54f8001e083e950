-- `lia` closes a goal by a certificate: weights for hypotheses, and for the negated target.
use Rattle.std.specs.Prelude.{◌≡◌, Bool, true, false, not, List, [], Result, Ok, Err}
use Rattle.floyd_text.specs.declared.refusal.No.{No}
use Rattle.floyd_arith.specs.Certificates.{certified}
use Rattle.floyd_goal_formulas.specs.Said.{Saying, Inequality, Absurd, said}
use Rattle.floyd_goal_trees.specs.declared.goal.Pure.{Pure}
use Rattle.floyd_goal.specs.Goals.{wrong_goal}
use Rattle.floyd_tree.specs.declared.weights.Weight.{Weight}
use Rattle.floyd_pure_formulas.specs.Rows.{Answer, Row, OfPure, Unless}

-- an inequality, or False
abbrev pub may_be_certified : Saying → Bool
may_be_certified (Inequality a b) = true
may_be_certified Absurd = true
may_be_certified saying = false

-- no goal is left
abbrev pub closed : Result (Unit {0}) No → Answer
closed (Ok done) = Ok []
closed (Err refusal) = Err refusal

abbrev pub Certifies : List Weight → Pure → Answer → Type 0
Certifies weights pure =
    Unless (not (may_be_certified (said pure.target))) wrong_goal
    (λ answer. answer ≡ closed (certified pure.context.hypotheses pure.target weights))

abbrev pub LiaRow : Row
LiaRow goal args answer = OfPure goal (Certifies args.weights) answer
