use Rattle.floyd_control.proofs.ControlLemmas.{if_answers}
use Rattle.floyd_control.proofs.branching.of_statement.Goals as goal

pub returns-in-If : goal.returns-in-If
returns-in-If g c =
    record {
      exact = if_answers c.args.at.defs.now.structs c.args.at.run.now c.args.given.now c.args.s.now c.in-If.e c.in-If.met c.in-If.unmet c.get.result.now c.get-in-If.result.now c.ifs.result c.in-If.is c.get.ensures
          c.get-in-If.ensures c.ifs.ensures.exact;
    }
