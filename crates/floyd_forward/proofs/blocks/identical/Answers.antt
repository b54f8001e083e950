use Rattle.std.proofs.Common.{sym}
use Rattle.floyd_arith.proofs.SameLemmas.{same_term_test}
use Rattle.floyd_forward.proofs.blocks.identical.Goals as goal

pub returns : goal.returns
returns c = sym (same_term_test c.equal.result c.args.a.now c.args.b.now c.equal.ensures)
