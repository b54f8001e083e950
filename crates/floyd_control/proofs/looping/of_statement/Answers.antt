use Rattle.floyd_control.proofs.ControlLemmas.{loop_is}
use Rattle.floyd_control.proofs.looping.of_statement.Goals as goal

pub returns-in-Loop : goal.returns-in-Loop
returns-in-Loop c =
    record {
      exact = loop_is c.args.at.run.now c.args.given.now c.args.s.now c.in-Loop.first c.in-Loop.second c.get.result.now c.get-in-Loop.result.now c.loops_with.result c.in-Loop.is c.get.ensures c.get-in-Loop.ensures
          c.loops_with.ensures.exact;
    }
