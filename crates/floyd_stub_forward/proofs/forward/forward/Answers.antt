use Rattle.floyd_stub_forward.proofs.TurnLaws.{taken_forward, stopped_forward}
use Rattle.floyd_stub_forward.proofs.forward.forward.Goals as goal

pub returns-in-Ok : goal.returns-in-Ok
returns-in-Ok c =
    let run = c.args.run in
    taken_forward run.context run.source run.exits run.rest c.in-Ok.turn c.goals.result c.in-Ok.ensures c.goals.ensures

pub returns-in-Err : goal.returns-in-Err
returns-in-Err c =
    let run = c.args.run in
    stopped_forward run.context run.source run.exits run.rest c.in-Err.stop c.in-Err.ensures
