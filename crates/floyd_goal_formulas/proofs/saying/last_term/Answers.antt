use Rattle.std.proofs.Common.{◌∙◌}
use Rattle.floyd_goal_formulas.proofs.Lists.{last_is}
use Rattle.floyd_goal_formulas.proofs.saying.last_term.Goals as goal

pub returns : goal.returns
returns c = c.last.ensures.value ∙ last_is c.args.terms.now
