use Rattle.std.proofs.Common.{sym}
use Rattle.floyd_symexpr_paths.proofs.SameLemmas.{same_type_test}
use Rattle.floyd_forward.proofs.blocks.same_type.Goals as goal

pub returns : goal.returns
returns c = sym (same_type_test c.equal_types.result c.args.a.now c.args.b.now c.equal_types.ensures)
