-- `mp` uses a hypothesis that is an implication: its premise is a side formula, and its conclusion a new hypothesis.
use Rattle.std.specs.Prelude.{◌≡◌, [], ◌∷◌, Err}
use Rattle.floyd_goal_trees.specs.declared.args.Args.{Args}
use Rattle.floyd_goal_trees.specs.declared.goal.Goal.{Goal}
use Rattle.floyd_goal_formulas.specs.Said.{Saying, Implication, said}
use Rattle.floyd_pure_formulas.specs.Rows.{Answer, Row, Concludes, OfHypothesis, WhenNamed, no_such}

abbrev pub ByImplication : Goal → Args → Saying → Answer → Type 0
ByImplication goal args (Implication premise conclusion) answer = Concludes goal (premise ∷ []) conclusion answer
ByImplication goal args saying answer = answer ≡ Err (no_such args)

abbrev pub MpRow : Row
MpRow goal args answer = WhenNamed goal (OfHypothesis goal args (λ h. ByImplication goal args (said h))) answer
