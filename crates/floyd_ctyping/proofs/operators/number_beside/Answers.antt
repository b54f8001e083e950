use Rattle.std.proofs.Common.{◌≡◌, ap, sym, ◌∙◌, subst, IfOk, Option}
use Rattle.floyd_ctypes.specs.declared.ctype.CType.{CType}
use Rattle.floyd_elab_names.specs.Types.{pointer_to as pointer_to_lem}
use Rattle.floyd_ctyping.specs.Operators.{when, number_beside as number_beside_lem}
use Rattle.floyd_ctyping.proofs.OperatorLemmas.{number_beside_of_pointer}
use Rattle.floyd_ctyping.proofs.operators.number_beside.Goals as goal

pub returns-in-Pointer : goal.returns-in-Pointer
returns-in-Pointer c =
    subst (λ (wanted : Option CType). IfOk c.pointer_if.result (λ o. o ≡ wanted))
    (ap (λ u. when c.args.zero (pointer_to_lem u)) c.get.ensures
    ∙ sym (ap (number_beside_lem c.args.zero c.args.j) c.in-Pointer.is ∙ number_beside_of_pointer c.args.zero c.args.j _))
    c.pointer_if.ensures
