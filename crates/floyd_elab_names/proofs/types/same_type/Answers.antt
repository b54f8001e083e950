use Rattle.floyd_elab_names.proofs.SameLemmas.{same_type_test}
use Rattle.floyd_elab_names.proofs.types.same_type.Goals as goal

pub returns : goal.returns
returns c = same_type_test c.same.result c.args.t.now c.args.u.now c.same.ensures
