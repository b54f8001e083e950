-- `unfold_fun` replaces each call of a FUN in a goal by its meaning.
use Rattle.std.specs.Prelude.{◌≡◌, ℕ, List, Option, Some, None, Err, bytes_eq}
use Rattle.std.specs.Map.{lookup}
use Rattle.floyd_assert_trees.specs.declared.items.Defs.{Defs}
use Rattle.floyd_assert_trees.specs.declared.items.Fun.{Fun}
use Rattle.floyd_goal_trees.specs.declared.args.Args.{Args}
use Rattle.floyd_goal_trees.specs.declared.goal.Goal.{Goal}
use Rattle.floyd_goal_trees.specs.declared.goal.Goal.TheVariants as g
use Rattle.floyd_pure_formulas.specs.Rows.{Answer, WhenNamed}
use Rattle.floyd_pure_rewriting.specs.Changing.{entail_by, no_occurrence, pure_by, run_by}
use Rattle.floyd_unfolding.specs.Assertions.{assertion_unfolded}
use Rattle.floyd_unfolding.specs.Calls.{TakesTerms}
use Rattle.floyd_unfolding.specs.Unfolded.{formula_unfolded}

-- in the target, LOCAL and SEP of a goal; what holds before is changed too, but no hypothesis
abbrev pub unfolded_goal : List ℕ → Fun → Goal → Answer
unfolded_goal name own (g.Run run) = run_by run (assertion_unfolded name own run.source)
unfolded_goal name own (g.Entail entail) = entail_by entail (assertion_unfolded name own entail.source) (assertion_unfolded name own entail.target)
unfolded_goal name own (g.Pure pure) = pure_by pure (formula_unfolded name own pure.target)

-- where there is no FUN of that name there is no call of it
abbrev pub unfolded_by : List ℕ → Option Fun → Goal → Answer
unfolded_by name None goal = Err no_occurrence
unfolded_by name (Some own) goal = unfolded_goal name own goal

abbrev pub Row : Defs → Goal → Args → Answer → Type 0
Row defs goal args answer = WhenNamed goal (λ given. given ≡ unfolded_by args.name (lookup (bytes_eq args.name) defs.funs) goal) answer

-- in the term that a call of a FUN stands for each variable has the sort of the term in its place
abbrev pub FunsTakeTerms : Defs → Type 0
FunsTakeTerms defs = (name : List ℕ) (own : Fun) → lookup (bytes_eq name) defs.funs ≡ Some own → TakesTerms own
