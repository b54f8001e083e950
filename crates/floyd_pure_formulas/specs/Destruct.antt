-- `destruct` goes through the cases of a hypothesis, or of a variable.
use Rattle.std.specs.Prelude.{◌≡◌}
use Rattle.floyd_goal_trees.specs.declared.args.Args.{Args}
use Rattle.floyd_goal_trees.specs.declared.args.Target.{Target}
use Rattle.floyd_goal_trees.specs.declared.args.Target.TheVariants.{Nothing, Part, Hypothesis}
use Rattle.floyd_goal_trees.specs.declared.goal.Goal.{Goal}
use Rattle.floyd_pure_formulas.specs.HypothesisCases.{HypothesisCases}
use Rattle.floyd_pure_formulas.specs.Rows.{Answer, Row, WhenNamed}
use Rattle.floyd_pure_formulas.specs.VariableCases.{variable_cases}

abbrev pub OfTarget : Goal → Args → Target → Answer → Type 0
OfTarget goal args Nothing answer = answer ≡ variable_cases goal args
OfTarget goal args (Part k) answer = answer ≡ variable_cases goal args
OfTarget goal args (Hypothesis k) answer = HypothesisCases goal args answer

abbrev pub DestructRow : Row
DestructRow goal args answer = WhenNamed goal (OfTarget goal args args.target) answer
