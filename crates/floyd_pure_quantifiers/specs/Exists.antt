-- `Exists` on a Pure goal whose target is an `exists`: its instance is to be proved.
use Rattle.std.specs.Prelude.{◌≡◌, List, Err}
use Rattle.floyd_tree.specs.Plain.{Plain}
use Rattle.floyd_goal_trees.specs.declared.context.Context.{Context}
use Rattle.floyd_goal.specs.Goals.{pure_goal, wrong_goal}
use Rattle.floyd_goal_formulas.specs.Said.{Saying, ThereIs, said}
use Rattle.floyd_pure_formulas.specs.Instances.{goal_by, instance}
use Rattle.floyd_pure_formulas.specs.Rows.{Answer, Row, OfPure}

abbrev pub witnessed : Context → List Plain → Saying → Answer
witnessed context terms (ThereIs x s body) = goal_by (pure_goal context) (instance x s body terms)
witnessed context terms saying = Err wrong_goal

abbrev pub ExistsRow : Row
ExistsRow goal args answer = OfPure goal (λ pure a. a ≡ witnessed pure.context args.terms (said pure.target)) answer
