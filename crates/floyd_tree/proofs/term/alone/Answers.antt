use Rattle.std.proofs.Common.{sym, arith}
use Rattle.floyd_tree.proofs.TermLemmas.{alone_some}
use Rattle.floyd_tree.proofs.term.alone.Goals as goal

pub returns-in_default : goal.returns-in_default
returns-in_default c = sym (alone_some c.args.sort c.args.kids.now (omega arith))
