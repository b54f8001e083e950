use Rattle.tests_terms.proofs.Spines.{few_made}
use Rattle.tests_terms.proofs.large.substitute_leftmost.Goals as goal

pub returns : goal.returns
returns g c = few_made c.args.count c.args.steps.now c.subst.new.steps c.args.x.now c.args.leaf.now c.args.tree.now c.requires.other c.requires.tree c.subst.ensures.cost
