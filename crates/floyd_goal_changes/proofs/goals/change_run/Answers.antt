use Rattle.floyd_goal_changes.proofs.Making.{run_made, run_stops_exits, run_stops_source}
use Rattle.floyd_goal_changes.proofs.goals.change_run.Goals as goal

pub returns-in-Err-change_assertion : goal.returns-in-Err-change_assertion
returns-in-Err-change_assertion g c = record {
  exact = run_stops_source c.args.by.now c.args.run.now c.in-Ok.context c.get.result.now c.in-Err-change_assertion.stop c.in-Ok.ensures.exact c.get.ensures c.in-Err-change_assertion.ensures.exact;
}

pub returns-in_ok-exits-in-Ok-change_exits : goal.returns-in_ok-exits-in-Ok-change_exits
returns-in_ok-exits-in-Ok-change_exits g c = record {
  exact =
      run_made c.args.by.now c.args.run.now c.in-Ok.context c.get.result.now c.in-Ok-change_assertion.source c.in_ok-source-in-Ok-change_exits.source c.get-2.result.now c.in-Ok-change_exits.exits
      c.in_ok-exits-in-Ok-change_exits.exits c.in_ok-rest-in-Ok-change_exits.rest c.in-Ok.ensures.exact c.get.ensures c.in-Ok-change_assertion.ensures.exact c.get-2.ensures
      c.in-Ok-change_exits.ensures.exact c.in_ok-source-in-Ok-change_exits.ensures c.in_ok-exits-in-Ok-change_exits.ensures c.in_ok-rest-in-Ok-change_exits.ensures;
}

pub returns-in-Err-change_exits : goal.returns-in-Err-change_exits
returns-in-Err-change_exits g c = record {
  exact =
      run_stops_exits c.args.by.now c.args.run.now c.in-Ok.context c.get.result.now c.in-Ok-change_assertion.source c.get-2.result.now c.in-Err-change_exits.stop c.in-Ok.ensures.exact c.get.ensures
      c.in-Ok-change_assertion.ensures.exact c.get-2.ensures c.in-Err-change_exits.ensures.exact;
}
