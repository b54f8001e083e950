-- The goal of side formulas that are well formed, and the goals behind it.
use Rattle.std.proofs.Common.{◌≡◌, Bool, true, false, cond, List, Option, Some, None, Ok, Err, sym, ap, subst, ◌∙◌}
use Rattle.floyd_tree.specs.Formulas.{PlainFormula}
use Rattle.floyd_tree.specs.MadeFormulas.{formula_fits}
use Rattle.floyd_tree_values.specs.Rules.{Scope}
use Rattle.floyd_assert_trees.specs.declared.items.Defs.{Defs}
use Rattle.floyd_assert_trees.specs.declared.spec.SpecTable.{SpecTable}
use Rattle.floyd_goal.specs.Sides.{side_goal}
use Rattle.floyd_goal_formulas.specs.Keeping.{conjunction, too_large}
use Rattle.floyd_goal_trees.specs.Contexts.{after_command, context_of, scope_of}
use Rattle.floyd_goal_trees.specs.declared.goal.Goal.{Goal}
use Rattle.floyd_goal_forms.specs.Goals.{IsWellFormed}
use Rattle.floyd_goal_forms.specs.Terms.{FormulaFits, FormulasFit}
use Rattle.floyd_goal_parts.specs.Rows.{Sided, after_sides}
use Rattle.floyd_pure_formulas.proofs.Rowing.{goals_are, no_goals}
use Rattle.floyd_formed_pure.specs.Rows.{AreWellFormed, GivenFormula}
use Rattle.floyd_formed_pure.proofs.Contexts.{pure_formed}
use Rattle.floyd_formed_pure.proofs.Premises.{conjunction_formed, kept_formed}

module _ (defs : Defs) (specs : SpecTable) (goal : Goal) (formed : IsWellFormed defs specs goal) (behind : List PlainFormula → List Goal) (goals : List Goal) where
  abbrev scope : Scope
  scope = scope_of (context_of goal)

  in_limits : (kept : List PlainFormula) (target : PlainFormula) (b : Bool) → FormulaFits defs specs scope target → AreWellFormed defs specs (behind kept) →
      Ok goals ≡ after_sides behind (cond b (Ok (record { kept = kept; goal = Some (record { context = after_command (context_of goal); target = target }) })) (Err too_large)) →
      AreWellFormed defs specs goals
  in_limits kept target true t k e = subst (AreWellFormed defs specs) (sym (goals_are goals _ e)) (pure_formed defs specs goal target formed t, k)
  in_limits kept target false t k e = absurd (no_goals goals _ e)

  of_side : (kept : List PlainFormula) (o : Option PlainFormula) → GivenFormula defs specs scope o → AreWellFormed defs specs (behind kept) → Ok goals ≡ after_sides behind (side_goal (context_of goal) kept o) → AreWellFormed defs specs goals
  of_side kept None t k e = subst (AreWellFormed defs specs) (sym (goals_are goals _ e)) k
  of_side kept (Some target) t k e = in_limits kept target (formula_fits target) t k e

  pub sided_formed : (fs : List PlainFormula) → FormulasFit defs specs scope fs → ((kept : List PlainFormula) → FormulasFit defs specs scope kept → AreWellFormed defs specs (behind kept)) → Sided (context_of goal) fs behind (Ok goals) → AreWellFormed defs specs goals
  sided_formed fs h next row =
      let kept = row.1.0 in
      let k = kept_formed defs specs scope (context_of goal).hypotheses fs kept row.1.1 h in
      of_side kept (conjunction kept) (conjunction_formed defs specs scope kept k) (next kept k) (row.2 ∙ ap (after_sides behind) row.1.2)
