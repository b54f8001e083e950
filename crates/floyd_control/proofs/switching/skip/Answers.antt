use Rattle.std.proofs.Common.{drop, ap, ◌∙◌}
use Rattle.floyd_control.proofs.SwitchLemmas.{drop_one}
use Rattle.floyd_control.proofs.switching.skip.Goals as goal

pub statements-preserved : goal.statements-preserved
statements-preserved c = c.advance.ensures ∙ ap (drop 1) c.statements.invariant ∙ drop_one c.statements._statement-index c.args.rest.now
