-- Commands that close a goal leave none.
use Rattle.std.proofs.Common.{◌≡◌, Bool, true, false, not, cond, List, [], Result, Ok, Err, sym, subst}
use Rattle.floyd_arith.specs.Certificates.{certified}
use Rattle.floyd_text.specs.declared.refusal.No.{No}
use Rattle.floyd_goal.specs.Goals.{intros_first, is_pending, wrong_goal}
use Rattle.floyd_goal_formulas.specs.Said.{said}
use Rattle.floyd_goal_trees.specs.declared.goal.Goal.{Goal}
use Rattle.floyd_goal_trees.specs.declared.goal.Goal.TheVariants as g
use Rattle.floyd_assert_trees.specs.declared.items.Defs.{Defs}
use Rattle.floyd_assert_trees.specs.declared.spec.SpecTable.{SpecTable}
use Rattle.floyd_pure_formulas.specs.Discriminate.{ClosesRefuted, DiscriminateRow, is_refuted}
use Rattle.floyd_pure_formulas.specs.Refl.{IsIdentity, ReflRow}
use Rattle.floyd_pure_formulas.specs.Rows.{Answer, Closes, OfHypothesis, no_such}
use Rattle.floyd_pure_formulas.specs.Trivial.{IsTrivial, TrivialRow}
use Rattle.floyd_pure_formulas.proofs.Rowing.{found, goals_are, no_goals, passed, provided}
use Rattle.floyd_pure_laws.specs.Lia.{LiaRow, closed, may_be_certified}
use Rattle.floyd_formed_pure.specs.Rows.{AreWellFormed, KeepsForms}

module _ (defs : Defs) (specs : SpecTable) (goals : List Goal) where
  none : ◌≡◌ {A = Answer} (Ok goals) (Ok []) → AreWellFormed defs specs goals
  none e = subst (AreWellFormed defs specs) (sym (goals_are goals [] e)) tt

  none_if : (b : Bool) (refusal : No) → Ok goals ≡ cond b (Ok []) (Err refusal) → AreWellFormed defs specs goals
  none_if true refusal e = none e
  none_if false refusal e = absurd (no_goals goals refusal e)

  none_by : (r : Result (Unit {0}) No) → Ok goals ≡ closed r → AreWellFormed defs specs goals
  none_by (Ok done) e = none e
  none_by (Err refusal) e = absurd (no_goals goals refusal e)

pub refl_forms : KeepsForms ReflRow
refl_forms defs specs (g.Run run) args goals formed given row = absurd (no_goals goals _ row)
refl_forms defs specs (g.Entail entail) args goals formed given row = absurd (no_goals goals _ row)
refl_forms defs specs (g.Pure pure) args goals formed given row = none defs specs goals (provided (IsIdentity (said pure.target)) _ Closes goals row).1

pub trivial_forms : KeepsForms TrivialRow
trivial_forms defs specs (g.Run run) args goals formed given row = absurd (no_goals goals _ row)
trivial_forms defs specs (g.Entail entail) args goals formed given row = absurd (no_goals goals _ row)
trivial_forms defs specs (g.Pure pure) args goals formed given row = none defs specs goals (provided (IsTrivial pure) _ Closes goals row).1

pub discriminate_forms : KeepsForms DiscriminateRow
discriminate_forms defs specs goal args goals formed given row =
    let p = found _ (no_such args) (ClosesRefuted args) goals (passed (is_pending goal) intros_first (OfHypothesis goal args (ClosesRefuted args)) goals row) in
    none_if defs specs goals (is_refuted (said p.0)) (no_such args) p.2

pub lia_forms : KeepsForms LiaRow
lia_forms defs specs (g.Run run) args goals formed given row = absurd (no_goals goals _ row)
lia_forms defs specs (g.Entail entail) args goals formed given row = absurd (no_goals goals _ row)
lia_forms defs specs (g.Pure pure) args goals formed given row =
    let answer = certified pure.context.hypotheses pure.target args.weights in
    none_by defs specs goals answer (passed (not (may_be_certified (said pure.target))) wrong_goal (λ a. a ≡ closed answer) goals row)
