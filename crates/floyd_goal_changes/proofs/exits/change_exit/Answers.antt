use Rattle.floyd_goal_changes.proofs.Making.{exit_made, exit_stops}
use Rattle.floyd_goal_changes.proofs.exits.change_exit.Goals as goal

pub returns-in_ok-new-in-Ok : goal.returns-in_ok-new-in-Ok
returns-in_ok-new-in-Ok g c = record {
  exact = exit_made c.args.by.now c.args.exit.now c.in-To.assertion c.get.result.now c.in-Ok.changed c.in_ok-new-in-Ok.field-0 c.in-To.is c.get.ensures c.in-Ok.ensures.exact c.in_ok-new-in-Ok.ensures;
}

pub returns-in-Err : goal.returns-in-Err
returns-in-Err g c = record {
  exact = exit_stops c.args.by.now c.args.exit.now c.in-To.assertion c.get.result.now c.in-Err.stop c.in-To.is c.get.ensures c.in-Err.ensures.exact;
}
