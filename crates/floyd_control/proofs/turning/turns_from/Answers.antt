use Rattle.floyd_control.proofs.WhileLemmas.{from_gives, from_stops}
use Rattle.floyd_control.proofs.turning.turns_from.Goals as goal

pub returns-in-Ok : goal.returns-in-Ok
returns-in-Ok g c =
    record {
      exact = from_gives c.args.at.defs.now.structs c.args.at.run.now c.args.invariant.now c.args.test.now c.args.body c.args.a.now c.in_ok-memory.memory c.in-Ok.c c.turns_by.result c.in_ok-memory.ensures
          c.in-Ok.ensures.exact c.turns_by.ensures.exact;
    }

pub returns-in-Err : goal.returns-in-Err
returns-in-Err g c =
    record {
      exact = from_stops c.args.at.defs.now.structs c.args.at.run.now c.args.invariant.now c.args.test.now c.args.body c.args.a.now c.in_ok-memory.memory c.in-Err.stop c.in_ok-memory.ensures c.in-Err.ensures.exact;
    }
