use Rattle.std.proofs.Common.{ap, ◌∙◌}
use Rattle.floyd_play_scopes.specs.GoalScopes.{with_binders}
use Rattle.floyd_play_scopes.proofs.scopes.variables_of.Goals as goal

pub returns : goal.returns
returns c = c.in_ok-bind_all.ensures ∙ ap (with_binders c.args.binders.now) c.none-variables.ensures
