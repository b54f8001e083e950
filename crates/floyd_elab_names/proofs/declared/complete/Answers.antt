use Rattle.std.proofs.Common.{subst}
use Rattle.floyd_ctypes.specs.declared.define.DefineStop.{DefineStop}
use Rattle.floyd_ctypes.specs.Define.{Refuses, refusal}
use Rattle.floyd_elab_names.proofs.StoredLemmas.{each_fits, not_incomplete}
use Rattle.floyd_elab_names.proofs.declared.complete.Goals as goal

pub complete-requires-clause-fits : goal.complete-requires-clause-fits
complete-requires-clause-fits c = each_fits c.args.tags.now.structs c.args.fields c.requires.stored

pub halt_at-requires : goal.halt_at-requires
halt_at-requires c = λ e.
    let ss = c.args.tags.now.structs in
    let tag = c.args.tag.now.name in
    not_incomplete ss tag c.args.fields c.requires.stored (subst (λ (s : DefineStop). Refuses s (refusal ss tag c.args.fields)) e c.in-Err.ensures.answer)
