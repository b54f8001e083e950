use Rattle.std.proofs.lemmas.Result.{err_from_is_err_and}
use Rattle.floyd_goal_runs.proofs.NeedLemmas.{needing_fails, needing_from, needing_stops}
use Rattle.floyd_control.specs.ForwardSwitch.{switched}
use Rattle.floyd_control.proofs.switching.switches_by.Goals as goal

pub returns-in_err-side : goal.returns-in_err-side
returns-in_err-side g c =
    let run = c.args.at.run.now in
    let needs = c.args.needs.now in
    let p = err_from_is_err_and c.from_residual.result c.from_residual.ensures.1 in
    record {
      exact = rw (p.1, p.2)
          (needing_stops run.context run.source needs (switched run c.args.a.now c.args.cases.now c.args.number.now) c.as_slice-formulas.result.now c.in_err-side.field-0.0 c.as_slice-formulas.ensures c.in_err-side.ensures.exact);
    }

pub returns-in_err-goals : goal.returns-in_err-goals
returns-in_err-goals g c =
    let run = c.args.at.run.now in
    let needs = c.args.needs.now in
    let p = err_from_is_err_and c.from_residual-in_err-goals.result c.from_residual-in_err-goals.ensures.1 in
    record {
      exact = rw (p.1, p.2)
          (needing_fails run.context run.source needs (switched run c.args.a.now c.args.cases.now c.args.number.now) c.as_slice-formulas.result.now (c.in_ok-side.side, c.in_ok-side.context) c.in_err-goals.field-0.0
          c.as_slice-formulas.ensures c.in_ok-side.ensures.exact c.in_err-goals.ensures.exact);
    }

pub returns : goal.returns
returns g c =
    let run = c.args.at.run.now in
    let needs = c.args.needs.now in
    record {
      exact = needing_from run.context run.source needs (switched run c.args.a.now c.args.cases.now c.args.number.now) c.as_slice-formulas.result.now c.as_slice-valid.result.now c.in_ok-side.side c.in_ok-side.context
          c.in_ok-goals.goals c.in_ok-needed.field-0 c.as_slice-formulas.ensures c.as_slice-valid.ensures c.in_ok-side.ensures.exact c.in_ok-goals.ensures.exact c.in_ok-needed.ensures;
    }
