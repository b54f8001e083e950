use Rattle.std.proofs.Common.{sym, arith}
use Rattle.floyd_tree.proofs.TermLemmas.{number_of_many}
use Rattle.floyd_tree.proofs.term.of_number.Goals as goal

pub returns-in_default : goal.returns-in_default
returns-in_default c = sym (number_of_many c.args.kids.now (omega arith))
