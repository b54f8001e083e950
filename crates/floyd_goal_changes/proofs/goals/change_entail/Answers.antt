use Rattle.floyd_goal_changes.proofs.Making.{entail_made, entail_stops_source, entail_stops_target}
use Rattle.floyd_goal_changes.proofs.goals.change_entail.Goals as goal

pub returns-in-Err-change_assertion : goal.returns-in-Err-change_assertion
returns-in-Err-change_assertion g c = record {
  exact = entail_stops_source c.args.by.now c.args.entail.now c.in-Ok.context c.get.result.now c.in-Err-change_assertion.stop c.in-Ok.ensures.exact c.get.ensures c.in-Err-change_assertion.ensures.exact;
}

pub returns-in_ok-target-in-Ok-change_assertion-2 : goal.returns-in_ok-target-in-Ok-change_assertion-2
returns-in_ok-target-in-Ok-change_assertion-2 g c = record {
  exact =
      entail_made c.args.by.now c.args.entail.now c.in-Ok.context c.get.result.now c.get-2.result.now c.in-Ok-change_assertion.source c.in-Ok-change_assertion-2.target
      c.in_ok-source-in-Ok-change_assertion-2.source c.in_ok-target-in-Ok-change_assertion-2.target c.in-Ok.ensures.exact c.get.ensures c.in-Ok-change_assertion.ensures.exact c.get-2.ensures
      c.in-Ok-change_assertion-2.ensures.exact c.in_ok-source-in-Ok-change_assertion-2.ensures c.in_ok-target-in-Ok-change_assertion-2.ensures;
}

pub returns-in-Err-change_assertion-2 : goal.returns-in-Err-change_assertion-2
returns-in-Err-change_assertion-2 g c = record {
  exact =
      entail_stops_target c.args.by.now c.args.entail.now c.in-Ok.context c.get.result.now c.get-2.result.now c.in-Ok-change_assertion.source c.in-Err-change_assertion-2.stop c.in-Ok.ensures.exact
      c.get.ensures c.in-Ok-change_assertion.ensures.exact c.get-2.ensures c.in-Err-change_assertion-2.ensures.exact;
}
