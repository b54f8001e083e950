use Rattle.std.proofs.Common.{◌≡◌, ◌∙◌, sym, subst, true≢false}
use Rattle.std.specs.Prelude.{IfOk}
use Rattle.floyd_goal_trees.specs.declared.goal.Goal.{Goal}
use Rattle.floyd_entail_predicates.proofs.UnfoldLemmas.{settled_over, some_are_left}
use Rattle.floyd_entail_predicates.proofs.settling.settled.Goals as goal

pub returns : goal.returns
returns c =
    subst (λ (t : Goal). IfOk c.from_source.result (λ g. g ≡ t))
    (settled_over c.args.goal.now c.args.kept c.args.source c.in_ok-new.field-0 c.context_of.result.now c.in_ok-context.context (some_are_left c.args.source.existentials (λ e. true≢false (sym (c.is_empty.ensures.1 e) ∙ c.if-is_empty.false))) c.context_of.ensures c.in_ok-context.ensures c.in_ok-new.ensures)
    c.from_source.ensures
