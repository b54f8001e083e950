-- Goals behind a command that changes their assertions, or their target, are well formed.
use Rattle.floyd_tree.specs.Formulas.{PlainFormula}
use Rattle.floyd_assert_trees.specs.declared.assertion.Assertion.{Assertion}
use Rattle.floyd_assert_trees.specs.declared.items.Defs.{Defs}
use Rattle.floyd_assert_trees.specs.declared.spec.SpecTable.{SpecTable}
use Rattle.floyd_goal_forms.specs.Assertions.{AssertionFits}
use Rattle.floyd_goal_forms.specs.Goals.{IsWellFormed}
use Rattle.floyd_goal_forms.specs.Terms.{FormulaFits}
use Rattle.floyd_goal_trees.specs.Contexts.{scope_of}
use Rattle.floyd_goal_trees.specs.declared.goal.Entail as e
use Rattle.floyd_goal_trees.specs.declared.goal.Goal.TheVariants as g
use Rattle.floyd_goal_trees.specs.declared.goal.Pure as p
use Rattle.floyd_goal_trees.specs.declared.goal.Run as r
use Rattle.floyd_pure_rewriting.proofs.PartsChanged.{entail_behind, pure_behind, run_behind}
use Rattle.floyd_formed_pure.proofs.Contexts.{after_formed}

module _ (defs : Defs) (specs : SpecTable) where
  pub run_formed : (run : r.Run) (source : Assertion) → IsWellFormed defs specs (g.Run run) → AssertionFits defs specs (scope_of run.context) source → IsWellFormed defs specs (run_behind run source)
  run_formed run source h k = record {
    context = after_formed defs specs (g.Run run) (run_behind run source) run.context h.context;
    source = k;
    statements = h.statements;
    exits = h.exits;
  }

  pub entail_formed : (entail : e.Entail) (source target : Assertion) → IsWellFormed defs specs (g.Entail entail) → AssertionFits defs specs (scope_of entail.context) source → AssertionFits defs specs (scope_of entail.context) target → IsWellFormed defs specs (entail_behind entail source target)
  entail_formed entail source target h k l = record {
    context = after_formed defs specs (g.Entail entail) (entail_behind entail source target) entail.context h.context;
    source = k;
    target = l;
  }

  pub pure_formed : (pure : p.Pure) (target : PlainFormula) → IsWellFormed defs specs (g.Pure pure) → FormulaFits defs specs (scope_of pure.context) target → IsWellFormed defs specs (pure_behind pure target)
  pure_formed pure target h k = record { context = after_formed defs specs (g.Pure pure) (pure_behind pure target) pure.context h.context; target = k }
