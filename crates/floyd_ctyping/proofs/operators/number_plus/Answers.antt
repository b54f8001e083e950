use Rattle.std.proofs.Common.{◌≡◌, ap, sym, ◌∙◌, subst, IfOk, Option}
use Rattle.floyd_ctypes.specs.declared.ctype.CType.{CType}
use Rattle.floyd_elab_names.specs.Types.{has_size as has_size_lem, pointer_to as pointer_to_lem}
use Rattle.floyd_ctyping.specs.Operators.{when, number_plus as number_plus_lem}
use Rattle.floyd_ctyping.proofs.OperatorLemmas.{number_plus_of_pointer}
use Rattle.floyd_ctyping.proofs.operators.number_plus.Goals as goal

pub returns-in-Pointer : goal.returns-in-Pointer
returns-in-Pointer c =
    subst (λ (wanted : Option CType). IfOk c.pointer_if.result (λ o. o ≡ wanted))
    (ap (λ b. when b (pointer_to_lem c.get-in-Pointer.result.now)) (c.has_size.ensures ∙ ap (has_size_lem c.args.structs.now) c.get.ensures)
    ∙ ap (λ u. when (has_size_lem c.args.structs.now c.in-Pointer.to) (pointer_to_lem u)) c.get-in-Pointer.ensures
    ∙ sym (ap (number_plus_lem c.args.structs.now c.args.j) c.in-Pointer.is ∙ number_plus_of_pointer c.args.structs.now c.args.j _))
    c.pointer_if.ensures
