use Rattle.std.proofs.Common.{ap, sym, ◌∙◌}
use Rattle.floyd_ctypes.specs.declared.ctype.CType.{CType, Pointer}
use Rattle.floyd_elab_names.specs.Types.{decay as decayed_lem}
use Rattle.floyd_elab_names.proofs.TypeLemmas.{decay-array}
use Rattle.floyd_elab_names.proofs.types.decay.Goals as goal

pub returns-in_ok-share-in-Array : goal.returns-in_ok-share-in-Array
returns-in_ok-share-in-Array c =
    ap (λ (t : CType). Pointer t) c.in_ok-share-in-Array.ensures ∙ sym (ap decayed_lem c.in-Array.is ∙ decay-array _ _)
