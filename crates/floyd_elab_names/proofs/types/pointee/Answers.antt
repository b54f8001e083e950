use Rattle.std.proofs.Common.{Some, ap, sym, ◌∙◌}
use Rattle.floyd_elab_names.specs.Types.{pointee as pointee_lem}
use Rattle.floyd_elab_names.proofs.TypeLemmas.{pointee-pointer}
use Rattle.floyd_elab_names.proofs.types.pointee.Goals as goal

pub returns-in-Pointer : goal.returns-in-Pointer
returns-in-Pointer c = ap Some c.get.ensures ∙ sym (ap pointee_lem c.in-Pointer.is ∙ pointee-pointer _)
