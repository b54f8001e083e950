use Rattle.std.proofs.lemmas.Result.{err_from_is_err_and}
use Rattle.floyd_goal_runs.proofs.NeedLemmas.{needing_from, needing_stops}
use Rattle.floyd_control.specs.ForwardWhile.{turned}
use Rattle.floyd_control.proofs.turning.turned_under.Goals as goal

pub returns-in_err-side : goal.returns-in_err-side
returns-in_err-side g c =
    let d = c.args.turning.condition.now in
    let p = err_from_is_err_and c.from_residual.result c.from_residual.ensures.1 in
    record {
      exact = rw (p.1, p.2)
          (needing_stops c.args.context.now c.args.source.now d.needs (turned c.args.at.run.now c.args.turning.invariant.now c.args.source.now d c.args.body) c.as_slice.result.now c.in_err-side.field-0.0 c.as_slice.ensures
          c.in_err-side.ensures.exact);
    }

pub returns : goal.returns
returns g c =
    let d = c.args.turning.condition.now in
    record {
      exact = needing_from c.args.context.now c.args.source.now d.needs (turned c.args.at.run.now c.args.turning.invariant.now c.args.source.now d c.args.body) c.as_slice.result.now c.as_slice-valid.result.now c.in_ok-side.side
          c.in_ok-side.under c.in_ok-goals.goals c.in_ok-needed.field-0 c.as_slice.ensures c.as_slice-valid.ensures c.in_ok-side.ensures.exact c.in_ok-goals.ensures c.in_ok-needed.ensures;
    }
