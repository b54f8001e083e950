use Rattle.floyd_control.proofs.SwitchLemmas.{switch_answers}
use Rattle.floyd_control.proofs.switching.of_statement.Goals as goal

pub returns-in-Switch : goal.returns-in-Switch
returns-in-Switch g c =
    record {
      exact = switch_answers c.args.at.defs.now.structs c.args.at.run.now c.args.given.now c.args.s.now c.in-Switch.e c.in-Switch.cases c.as_slice.result.now c.switches_with.result c.in-Switch.is c.as_slice.ensures
          c.switches_with.ensures.exact;
    }
