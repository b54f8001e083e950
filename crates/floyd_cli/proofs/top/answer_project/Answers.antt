use Rattle.std.proofs.Common.{subst, Err}
use Rattle.floyd_cli.specs.declared.load.LoadStop.{LoadStop}
use Rattle.floyd_cli.specs.LoadClauses.{Loads}
use Rattle.floyd_cli.proofs.Answering.{judged_project, judged_stop}
use Rattle.floyd_cli.proofs.top.answer_project.Goals as goal

pub returns-in-Ok-clause-gives : goal.returns-in-Ok-clause-gives
returns-in-Ok-clause-gives g c =
    let loads = c.in-Ok.ensures.gives in
    judged_project (g.H.Shelf.held c.args.shelf.now) c.args.name.now c.in-Ok.loaded.files c.in-Ok.loaded.names c.in_ok-judge_loaded-in-Ok.field-0 loads.0 loads.1
    c.in_ok-judge_loaded-in-Ok.ensures

pub returns-in-Halted-clause-gives : goal.returns-in-Halted-clause-gives
returns-in-Halted-clause-gives g c =
    let held = g.H.Shelf.held c.args.shelf.now in
    let before = g.H.Shelf.faults c.args.shelf.now in
    let now = g.H.Shelf.faults c.load.new.shelf in
    judged_stop held c.args.name.now c.in-Halted.halt c.in_ok-refuse-in-Halted.field-0 before now
    (subst (λ (e : LoadStop). Loads held c.args.name.now before now (Err e)) c.in-Halted.is c.in-Err.ensures.gives) c.in_ok-refuse-in-Halted.ensures
