use Rattle.std.proofs.Common.{◌++◌, ◌∷◌, [], inr, ap, sym, ◌∙◌, true≢false}
use Rattle.floyd_goal_formulas.proofs.keeping.keep.Goals as goal

pub returns : goal.returns
returns c = inr (
  λ d. true≢false (sym (c.drops.ensures.1 d) ∙ c.if-drops.false),
  c.in_ok-push.ensures.ok ∙ ap (λ f. c.args.all.now ++ f ∷ []) c.in_ok-share.ensures.value,
)
