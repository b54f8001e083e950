use Rattle.std.proofs.Common.{length, sym, ◌∙◌, ap, arith}
use Rattle.std.proofs.lemmas.List.{drop_all}
use Rattle.std.proofs.lemmas.Bool.{leb-true, le-leb}
use Rattle.floyd_goal_trees.proofs.Lists.{drop_is_nil}
use Rattle.floyd_goal_trees.proofs.rest.Rest.is_empty.Goals as goal

pub returns : goal.returns
returns c = (
  λ t. sym c.self.view_is ∙ drop_all c.self.inside.at c.self.inside.all (omega (arith, c.len.ensures, ap length c.get.ensures, leb-true c.len.result c.self.inside.at t)),
  λ e. le-leb c.len.result c.self.inside.at (omega (arith, c.len.ensures, ap length c.get.ensures, drop_is_nil c.self.inside.at c.self.inside.all (c.self.view_is ∙ e))),
)
