-- What the call of a command asks of a goal and of the command's arguments. Well-formed goals, items that are well formed and
-- arguments that were read meet it.
use Rattle.floyd_text.specs.declared.rule.Rule.{Rule}
use Rattle.floyd_text.specs.declared.rule.Rule.TheVariants as rule
use Rattle.floyd_assert_trees.specs.declared.items.Defs.{Defs}
use Rattle.floyd_assert_trees.specs.Meanings.{value_defs}
use Rattle.floyd_goal_trees.specs.Contexts.{context_of}
use Rattle.floyd_goal_trees.specs.declared.args.Args.{Args}
use Rattle.floyd_goal_trees.specs.declared.goal.Goal.{Goal}
use Rattle.floyd_goal_trees.specs.declared.goal.Goal.TheVariants as g
use Rattle.floyd_goal_truth.specs.Scopes.{AllFit}
use Rattle.floyd_entail.specs.Exists as exists
use Rattle.floyd_entail.specs.Intros as intros
use Rattle.floyd_entail_lemmas.specs.Apply as apply
use Rattle.floyd_entail_lemmas.specs.Hypothesis as apply_ih
use Rattle.floyd_entail_predicates.specs.Fold as folding
use Rattle.floyd_entail_predicates.specs.Unfold as unfolding_part
use Rattle.floyd_pure_formulas.specs.Instances.{IsFitIfPure}
use Rattle.floyd_pure_formulas.specs.Scoping.{IsScoped}
use Rattle.floyd_pure_unfolding.specs.Row.{FunsTakeTerms}

abbrev pub MeetsExists : Defs → Goal → Args → Type 0
MeetsExists defs (g.Pure pure) args = IsFitIfPure (value_defs defs) (g.Pure pure)
MeetsExists defs (g.Entail entail) args = exists.SortsAgree (g.Entail entail) args.terms
MeetsExists defs (g.Run run) args = exists.SortsAgree (g.Run run) args.terms

abbrev pub Meets : Defs → Rule → Goal → Args → Type 0
Meets defs rule.Intros goal args = intros.SortsAgree goal args.names
Meets defs rule.Exists goal args = MeetsExists defs goal args
Meets defs rule.Unfold goal args = unfolding_part.SortsAgree defs goal args
Meets defs rule.Fold goal args = folding.SortsAgree defs args
Meets defs rule.Apply goal args = apply.SortsAgree defs args
Meets defs rule.ApplyIh goal args = apply_ih.SortsAgree defs goal args
Meets defs rule.Induction goal args = IsScoped (value_defs defs) goal
Meets defs rule.Destruct goal args = IsScoped (value_defs defs) goal
Meets defs rule.Specialize goal args = AllFit (value_defs defs) (context_of goal) (context_of goal).hypotheses
Meets defs rule.Intro goal args = IsFitIfPure (value_defs defs) goal
Meets defs rule.UnfoldFun goal args = FunsTakeTerms defs
Meets defs command goal args = Unit {0}
