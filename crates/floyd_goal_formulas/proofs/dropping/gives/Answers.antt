use Rattle.std.proofs.Common.{inl, ⊎_elim, sym, subst, ◌∙◌, true≢false}
use Rattle.floyd_goal_formulas.specs.Drops.{GivesSaid}
use Rattle.floyd_goal_formulas.specs.Said.{said, seen}
use Rattle.floyd_goal_formulas.proofs.dropping.gives.Goals as goal

pub returns-else-gives_said : goal.returns-else-gives_said
returns-else-gives_said c = (
  λ t. inl (c.equal_formula.ensures.0 t),
  λ s. ⊎_elim (λ p. c.equal_formula.ensures.1 p) (λ g.
      let seen_second : GivesSaid (said c.args.h.now) (seen c.says-2.result) = subst (λ y. GivesSaid (said c.args.h.now) y) (sym c.says-2.ensures) g in
      let seen_both : GivesSaid (seen c.says.result) (seen c.says-2.result) = subst (λ x. GivesSaid x (seen c.says-2.result)) (sym c.says.ensures) seen_second in
      absurd (true≢false (sym (c.gives_said.ensures.1 seen_both) ∙ c.if-gives_said.false))) s,
)
