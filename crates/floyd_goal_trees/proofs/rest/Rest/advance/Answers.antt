use Rattle.std.proofs.Common.{◌∙◌, ap, drop}
use Rattle.floyd_goal_trees.proofs.Lists.{drop_one_more}
use Rattle.floyd_goal_trees.proofs.rest.Rest.advance.Goals as goal

pub returns-then-self-len : goal.returns-then-self-len
returns-then-self-len c = drop_one_more c.self.inside.at c.self.inside.all ∙ ap (drop 1) c.self.view_is
