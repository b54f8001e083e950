-- `left` and `right` keep that side of an `or`.
use Rattle.std.specs.Prelude.{◌≡◌, [], ◌∷◌, Ok, Err}
use Rattle.floyd_goal_trees.specs.declared.context.Context.{Context}
use Rattle.floyd_goal_trees.specs.declared.goal.Pure.{Pure}
use Rattle.floyd_goal.specs.Goals.{pure_goal, wrong_goal}
use Rattle.floyd_goal_formulas.specs.Said.{Saying, Either, said}
use Rattle.floyd_pure_formulas.specs.Rows.{Answer, Row, OfPure}

abbrev pub left_of : Context → Saying → Answer
left_of context (Either a b) = Ok (pure_goal context a ∷ [])
left_of context saying = Err wrong_goal

abbrev pub right_of : Context → Saying → Answer
right_of context (Either a b) = Ok (pure_goal context b ∷ [])
right_of context saying = Err wrong_goal

abbrev pub KeepsLeft : Pure → Answer → Type 0
KeepsLeft pure answer = answer ≡ left_of pure.context (said pure.target)

abbrev pub KeepsRight : Pure → Answer → Type 0
KeepsRight pure answer = answer ≡ right_of pure.context (said pure.target)

abbrev pub LeftRow : Row
LeftRow goal args answer = OfPure goal KeepsLeft answer

abbrev pub RightRow : Row
RightRow goal args answer = OfPure goal KeepsRight answer
