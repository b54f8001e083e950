-- Commands that use a hypothesis, a side of the target or a formula make well-formed goals.
use Rattle.std.proofs.Common.{◌≡◌, List, [], ◌∷◌, Option, Some, None, Ok, sym, subst}
use Rattle.floyd_tree.specs.Formulas.{PlainFormula}
use Rattle.floyd_goal.specs.Goals.{intros_first, is_pending, number_of, pure_goal}
use Rattle.floyd_goal_formulas.specs.Said.{Saying, Either, Implication, said}
use Rattle.floyd_goal_trees.specs.Contexts.{context_of, scope_of}
use Rattle.floyd_goal_trees.specs.declared.args.Args.{Args}
use Rattle.floyd_goal_trees.specs.declared.goal.Goal.{Goal}
use Rattle.floyd_goal_trees.specs.declared.goal.Goal.TheVariants as g
use Rattle.floyd_goal_trees.specs.declared.goal.Pure.{Pure}
use Rattle.floyd_assert_trees.specs.declared.items.Defs.{Defs}
use Rattle.floyd_assert_trees.specs.declared.spec.SpecTable.{SpecTable}
use Rattle.floyd_goal_forms.specs.Goals.{IsWellFormed}
use Rattle.floyd_goal_forms.specs.Terms.{FormulaFits}
use Rattle.floyd_pure_formulas.specs.Cut.{CutRow, cut_by}
use Rattle.floyd_pure_formulas.specs.LeftRight.{LeftRow, RightRow, left_of, right_of}
use Rattle.floyd_pure_formulas.specs.Mp.{ByImplication, MpRow}
use Rattle.floyd_pure_formulas.specs.Rows.{OfHypothesis, no_such}
use Rattle.floyd_pure_formulas.proofs.Rowing.{found, goals_are, no_goals, passed}
use Rattle.floyd_formed_pure.specs.Rows.{AreWellFormed, GivenFormula, KeepsForms}
use Rattle.floyd_formed_pure.proofs.Contexts.{context_formed, hypothesis_formed, pure_formed, with_more_formed}
use Rattle.floyd_formed_pure.proofs.Premises.{concludes_formed}
use Rattle.floyd_formed_pure.proofs.Sayings.{PartsFormed, parts_formed}

module _ (defs : Defs) (specs : SpecTable) (goal : Goal) (formed : IsWellFormed defs specs goal) (goals : List Goal) where
  cut_by_formed : (o : Option PlainFormula) → GivenFormula defs specs (scope_of (context_of goal)) o → Ok goals ≡ cut_by goal o → AreWellFormed defs specs goals
  cut_by_formed None k e = absurd (no_goals goals _ e)
  cut_by_formed (Some f) k e =
      subst (AreWellFormed defs specs) (sym (goals_are goals _ e)) (pure_formed defs specs goal f formed k, (with_more_formed defs specs goal (f ∷ []) formed (k, tt), tt))

  by_implication : (args : Args) (s : Saying) → PartsFormed defs specs (scope_of (context_of goal)) s → ByImplication goal args s (Ok goals) → AreWellFormed defs specs goals
  by_implication args (Implication a b) k row = concludes_formed defs specs goal formed b k.1 goals (a ∷ []) (k.0, tt) row
  by_implication args s k row = absurd (no_goals goals _ row)

module _ (defs : Defs) (specs : SpecTable) (pure : Pure) (formed : IsWellFormed defs specs (g.Pure pure)) (goals : List Goal) where
  one_goal : (f : PlainFormula) → FormulaFits defs specs (scope_of pure.context) f → AreWellFormed defs specs (pure_goal pure.context f ∷ [])
  one_goal f k = (pure_formed defs specs (g.Pure pure) f formed k, tt)

  left_formed : (s : Saying) → PartsFormed defs specs (scope_of pure.context) s → Ok goals ≡ left_of pure.context s → AreWellFormed defs specs goals
  left_formed (Either a b) k e = subst (AreWellFormed defs specs) (sym (goals_are goals _ e)) (one_goal a k.0)
  left_formed s k e = absurd (no_goals goals _ e)

  right_formed : (s : Saying) → PartsFormed defs specs (scope_of pure.context) s → Ok goals ≡ right_of pure.context s → AreWellFormed defs specs goals
  right_formed (Either a b) k e = subst (AreWellFormed defs specs) (sym (goals_are goals _ e)) (one_goal b k.1)
  right_formed s k e = absurd (no_goals goals _ e)

pub cut_forms : KeepsForms CutRow
cut_forms defs specs goal args goals formed given row =
    cut_by_formed defs specs goal formed goals args.formula given.formula (passed (is_pending goal) intros_first (λ a. a ≡ cut_by goal args.formula) goals row)

pub mp_forms : KeepsForms MpRow
mp_forms defs specs goal args goals formed given row =
    let scope = scope_of (context_of goal) in
    let p = found _ (no_such args) (λ h. ByImplication goal args (said h)) goals
    (passed (is_pending goal) intros_first (OfHypothesis goal args (λ h. ByImplication goal args (said h))) goals row) in
    let fit = hypothesis_formed defs specs scope (context_of goal).hypotheses (number_of args.target) p.0 p.1 (context_formed defs specs goal formed).hypotheses in
    by_implication defs specs goal formed goals args (said p.0) (parts_formed defs specs scope p.0 fit) p.2

pub left_forms : KeepsForms LeftRow
left_forms defs specs (g.Run run) args goals formed given row = absurd (no_goals goals _ row)
left_forms defs specs (g.Entail entail) args goals formed given row = absurd (no_goals goals _ row)
left_forms defs specs (g.Pure pure) args goals formed given row =
    left_formed defs specs pure formed goals (said pure.target) (parts_formed defs specs (scope_of pure.context) pure.target formed.target) row

pub right_forms : KeepsForms RightRow
right_forms defs specs (g.Run run) args goals formed given row = absurd (no_goals goals _ row)
right_forms defs specs (g.Entail entail) args goals formed given row = absurd (no_goals goals _ row)
right_forms defs specs (g.Pure pure) args goals formed given row =
    right_formed defs specs pure formed goals (said pure.target) (parts_formed defs specs (scope_of pure.context) pure.target formed.target) row
