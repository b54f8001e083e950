use Rattle.std.proofs.Common.{◌∙◌}
use Rattle.floyd_control.proofs.ControlLemmas.{from_is}
use Rattle.floyd_control.proofs.parts.runs_from.Goals as goal

pub returns : goal.returns
returns c =
    from_is c.run_goal.result c.args.context.now c.in_ok-context.context c.args.a.now c.in_ok-source.source c.args.rest c.args.exits c.has_existentials-pending.result c.has_existentials-pending.ensures c.in_ok-context.ensures
    (c.in_ok-source.ensures ∙ c.in_ok-source_from.ensures) c.run_goal.ensures
