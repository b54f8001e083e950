use Rattle.std.proofs.Common.{◌∙◌, ap}
use Rattle.floyd_forward.specs.Set.{runs_on, with_temp}
use Rattle.floyd_forward.proofs.RowAnswers.{one_is}
use Rattle.floyd_forward.proofs.setting.set_to.Goals as goal

pub returns : goal.returns
returns c =
    let run = c.args.at.run.now in
    one_is c.one_goal.result c.in_ok-runs_on.field-0 (runs_on run c.args.context (with_temp c.args.name.now c.args.term.now run.source))
    (c.in_ok-runs_on.ensures ∙ ap (runs_on run c.args.context) (c.in_ok-source.ensures ∙ ap (with_temp c.args.name.now c.args.term.now) c.source.ensures)) c.one_goal.ensures
