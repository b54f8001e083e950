use Rattle.std.proofs.Common.{◌≡◌, Ok, subst}
use Rattle.std.proofs.lemmas.Result.{err_from_is_err_and}
use Rattle.floyd_goal_trees.specs.Contexts.{with_hypotheses}
use Rattle.floyd_goal_trees.specs.declared.context.Context.{Context}
use Rattle.floyd_goal_runs.proofs.NeedLemmas.{needing_from, needing_stops}
use Rattle.floyd_forward.specs.Set.{set_to}
use Rattle.floyd_forward.proofs.setting.sets_with.Goals as goal

pub returns-in_err-side : goal.returns-in_err-side
returns-in_err-side g c =
    let run = c.args.at.run.now in
    let p = err_from_is_err_and c.from_residual.result c.from_residual.ensures.1 in
    record {
      exact = rw (p.1, p.2)
          (needing_stops run.context run.source c.args.needs.now (λ context. set_to run c.args.name.now c.args.v.now (with_hypotheses context c.args.more)) c.as_slice.result.now c.in_err-side.field-0.0 c.as_slice.ensures
          c.in_err-side.ensures.exact);
    }

pub returns : goal.returns
returns g c =
    let run = c.args.at.run.now in
    record {
      exact = needing_from run.context run.source c.args.needs.now (λ context. set_to run c.args.name.now c.args.v.now (with_hypotheses context c.args.more)) c.as_slice.result.now c.as_slice-2.result.now c.in_ok-side.side
          c.in_ok-side.context c.in_ok-goals.goals c.in_ok-needed.field-0 c.as_slice.ensures c.as_slice-2.ensures c.in_ok-side.ensures.exact
          (subst (λ (d : Context). set_to run c.args.name.now c.args.v.now d ≡ Ok c.in_ok-goals.goals) c.in_ok-inner.ensures c.in_ok-goals.ensures) c.in_ok-needed.ensures;
    }
