-- `rewrite [<-] Hk` replaces every occurrence of one side of an equation by the other side.
use Rattle.std.specs.Prelude.{◌≡◌, true, if◌then◌else◌, Err}
use Rattle.floyd_tree.specs.Formulas.{PlainFormula}
use Rattle.floyd_tree.specs.MadeFormulas.{formula_fits}
use Rattle.floyd_tree.specs.Plain.{Plain}
use Rattle.floyd_goal_formulas.specs.Said.{Saying, Equation, said}
use Rattle.floyd_goal_trees.specs.declared.args.Args.{Args}
use Rattle.floyd_goal_trees.specs.declared.goal.Goal.{Goal}
use Rattle.floyd_goal_trees.specs.declared.goal.Goal.TheVariants.{Run, Entail, Pure}
use Rattle.floyd_rewriting.specs.Rewritten.{assertion_rewritten, formula_rewritten}
use Rattle.floyd_pure_formulas.specs.Rows.{Answer, Row, OfHypothesis, WhenNamed, no_such}
use Rattle.floyd_pure_rewriting.specs.Changing.{entail_by, pure_by, run_by}

abbrev pub by_sides : Plain → Plain → Goal → Answer
by_sides from to (Run run) = run_by run (assertion_rewritten from to run.source)
by_sides from to (Entail entail) = entail_by entail (assertion_rewritten from to entail.source) (assertion_rewritten from to entail.target)
by_sides from to (Pure pure) = pure_by pure (formula_rewritten from to pure.target)

abbrev pub by_equation : Goal → Args → Saying → Answer
by_equation goal args (Equation a b) = if args.back then by_sides b a goal else by_sides a b goal
by_equation goal args saying = Err (no_such args)

-- A hypothesis is a formula, which is always within the limits.
abbrev pub Rewrites : Goal → Args → PlainFormula → Answer → Type 0
Rewrites goal args h answer = (formula_fits h ≡ true) × (answer ≡ by_equation goal args (said h))

abbrev pub RewriteRow : Row
RewriteRow goal args answer = WhenNamed goal (OfHypothesis goal args (Rewrites goal args)) answer
