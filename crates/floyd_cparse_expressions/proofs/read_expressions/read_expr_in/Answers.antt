use Rattle.std.proofs.Common.{add-one}
use Rattle.floyd_cparse_expressions.proofs.read_expressions.read_expr_in.Goals as goal

pub returns : goal.returns
returns c = rw add-one at c.read_expr.ensures
