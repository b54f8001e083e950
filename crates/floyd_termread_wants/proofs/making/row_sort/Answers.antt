use Rattle.std.proofs.Common.{sym, arith}
use Rattle.floyd_tree.proofs.TermLemmas.{row_many}
use Rattle.floyd_termread_wants.proofs.making.row_sort.Goals as goal

pub returns-in_default : goal.returns-in_default
returns-in_default c = sym (row_many c.args.row c.args.kids.now (omega arith))
