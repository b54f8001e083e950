-- The goals of a command that uses what follows from premises are well formed.
use Rattle.std.proofs.Common.{◌≡◌, Bool, true, false, ◌&&◌, cond, List, [], ◌∷◌, ◌++◌, Option, Some, None, Ok, Err, refl, sym, ap, subst, ◌∙◌, ⊎_elim}
use Rattle.floyd_tree.specs.Formulas.{PlainFormula}
use Rattle.floyd_tree.specs.MadeFormulas.{formula_fits}
use Rattle.floyd_tree_values.specs.Rules.{Scope}
use Rattle.floyd_truth.proofs.Fresh.{both_true}
use Rattle.floyd_tree.specs.Formulas.{well_sorted}
use Rattle.floyd_assert_trees.specs.declared.items.Defs.{Defs}
use Rattle.floyd_assert_trees.specs.declared.spec.SpecTable.{SpecTable}
use Rattle.floyd_goal.specs.Sides.{side_goal}
use Rattle.floyd_goal_formulas.specs.Keeping.{Kept, before, conjunction, too_large}
use Rattle.floyd_goal_trees.specs.Contexts.{after_command, context_of, scope_of}
use Rattle.floyd_goal_trees.specs.declared.goal.Goal.{Goal}
use Rattle.floyd_goal_forms.specs.Goals.{IsWellFormed}
use Rattle.floyd_goal_forms.specs.Terms.{FormulaFits, FormulasFit}
use Rattle.floyd_pure_formulas.specs.Rows.{Concludes, concluded, with_more}
use Rattle.floyd_pure_formulas.proofs.Rowing.{goals_are, no_goals}
use Rattle.floyd_formed_pure.specs.Rows.{AreWellFormed, GivenFormula}
use Rattle.floyd_formed_pure.proofs.Contexts.{both_all, pure_formed, with_more_formed}

module _ (defs : Defs) (specs : SpecTable) (scope : Scope) where
  pub kept_formed : (hs fs kept : List PlainFormula) → Kept hs fs kept → FormulasFit defs specs scope fs → FormulasFit defs specs scope kept
  kept_formed hs [] kept k h = subst (FormulasFit defs specs scope) (sym k) tt
  kept_formed hs (a ∷ fs) kept k h =
      ⊎_elim (λ p. kept_formed hs fs kept p.1 h.1) (λ p. subst (FormulasFit defs specs scope) (sym p.1.2) (h.0, kept_formed hs fs p.1.0 p.1.1 h.1)) k

  before_formed : (a : PlainFormula) (o : Option PlainFormula) → FormulaFits defs specs scope a → GivenFormula defs specs scope o → FormulaFits defs specs scope (before a o)
  before_formed a None h k = h
  before_formed a (Some b) h k = record {
    fits = record {
      sorted = both_true (well_sorted a) (well_sorted b && true) h.fits.sorted (both_true (well_sorted b) true k.fits.sorted refl);
      allowed = (tt, (h.fits.allowed, (k.fits.allowed, tt)));
    };
    known = (tt, tt, (h.known, (k.known, tt)));
  }

  pub conjunction_formed : (fs : List PlainFormula) → FormulasFit defs specs scope fs → GivenFormula defs specs scope (conjunction fs)
  conjunction_formed [] h = tt
  conjunction_formed (a ∷ fs) h = before_formed a (conjunction fs) h.0 (conjunction_formed fs h.1)

module _ (defs : Defs) (specs : SpecTable) (goal : Goal) (formed : IsWellFormed defs specs goal) (c : PlainFormula) (concludes : FormulaFits defs specs (scope_of (context_of goal)) c) (goals : List Goal) where
  abbrev scope : Scope
  scope = scope_of (context_of goal)

  behind : (kept : List PlainFormula) → FormulasFit defs specs scope kept → IsWellFormed defs specs (with_more goal (kept ++ c ∷ []))
  behind kept k = with_more_formed defs specs goal (kept ++ c ∷ []) formed (both_all (FormulaFits defs specs scope) kept (c ∷ []) k (concludes, tt))

  in_limits : (kept : List PlainFormula) (target : PlainFormula) (b : Bool) → FormulasFit defs specs scope kept → FormulaFits defs specs scope target →
      Ok goals ≡ concluded goal c (cond b (Ok (record { kept = kept; goal = Some (record { context = after_command (context_of goal); target = target }) })) (Err too_large)) →
      AreWellFormed defs specs goals
  in_limits kept target true k t e = subst (AreWellFormed defs specs) (sym (goals_are goals _ e)) (pure_formed defs specs goal target formed t, (behind kept k, tt))
  in_limits kept target false k t e = absurd (no_goals goals _ e)

  of_side : (kept : List PlainFormula) (o : Option PlainFormula) → FormulasFit defs specs scope kept → GivenFormula defs specs scope o → Ok goals ≡ concluded goal c (side_goal (context_of goal) kept o) → AreWellFormed defs specs goals
  of_side kept None k t e = subst (AreWellFormed defs specs) (sym (goals_are goals _ e)) (behind kept k, tt)
  of_side kept (Some target) k t e = in_limits kept target (formula_fits target) k t e

  pub concludes_formed : (premises : List PlainFormula) → FormulasFit defs specs scope premises → Concludes goal premises c (Ok goals) → AreWellFormed defs specs goals
  concludes_formed premises h row =
      let kept = row.1.0 in
      let k = kept_formed defs specs scope (context_of goal).hypotheses premises kept row.1.1 h in
      of_side kept (conjunction kept) k (conjunction_formed defs specs scope kept k) (row.2 ∙ ap (concluded goal c) row.1.2)
