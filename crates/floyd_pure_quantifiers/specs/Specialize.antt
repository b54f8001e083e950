-- `specialize` makes of a hypothesis that is a `forall` its instance, which is then a hypothesis.
use Rattle.std.specs.Prelude.{◌≡◌, [], ◌∷◌, Err}
use Rattle.floyd_goal_trees.specs.declared.args.Args.{Args}
use Rattle.floyd_goal_trees.specs.declared.goal.Goal.{Goal}
use Rattle.floyd_goal_formulas.specs.Said.{Saying, ForAll, said}
use Rattle.floyd_pure_formulas.specs.Instances.{goal_by, instance}
use Rattle.floyd_pure_formulas.specs.Rows.{Answer, Row, OfHypothesis, WhenNamed, no_such, with_more}

abbrev pub specialized : Goal → Args → Saying → Answer
specialized goal args (ForAll x s body) = goal_by (λ f. with_more goal (f ∷ [])) (instance x s body args.terms)
specialized goal args saying = Err (no_such args)

abbrev pub SpecializeRow : Row
SpecializeRow goal args answer = WhenNamed goal (OfHypothesis goal args (λ h a. a ≡ specialized goal args (said h))) answer
