-- `cut` asks for a proof of a formula, which is then a hypothesis.
use Rattle.std.specs.Prelude.{◌≡◌, [], ◌∷◌, Option, Some, None, Ok, Err}
use Rattle.floyd_tree.specs.Formulas.{PlainFormula}
use Rattle.floyd_goal_trees.specs.declared.goal.Goal.{Goal}
use Rattle.floyd_goal.specs.Goals.{pure_goal, wrong_goal}
use Rattle.floyd_goal.specs.Sides.{context_of}
use Rattle.floyd_pure_formulas.specs.Rows.{Answer, Row, WhenNamed, with_more}

-- the command always has a formula
abbrev pub cut_by : Goal → Option PlainFormula → Answer
cut_by goal None = Err wrong_goal
cut_by goal (Some f) = Ok (pure_goal (context_of goal) f ∷ with_more goal (f ∷ []) ∷ [])

abbrev pub CutRow : Row
CutRow goal args answer = WhenNamed goal (λ a. a ≡ cut_by goal args.formula) answer
