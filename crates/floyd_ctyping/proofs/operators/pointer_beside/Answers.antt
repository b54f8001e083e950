use Rattle.std.proofs.Common.{◌≡◌, ap, sym, ◌∙◌, subst, IfOk, Option}
use Rattle.floyd_ctypes.specs.declared.ctype.CType.{CType}
use Rattle.floyd_elab_names.specs.Types.{same_type as same_type_lem, pointer_to as pointer_to_lem}
use Rattle.floyd_ctyping.specs.Operators.{when, pointer_beside as pointer_beside_lem}
use Rattle.floyd_ctyping.proofs.OperatorLemmas.{pointer_beside_of_pointer}
use Rattle.floyd_ctyping.proofs.operators.pointer_beside.Goals as goal

pub returns-in-Pointer : goal.returns-in-Pointer
returns-in-Pointer c =
    subst (λ (wanted : Option CType). IfOk c.pointer_if-in-Pointer.result (λ o. o ≡ wanted))
    (ap (λ b. when b (pointer_to_lem c.args.t.now)) (c.same_type.ensures ∙ ap (same_type_lem c.args.t.now) c.get.ensures)
    ∙ sym (ap (pointer_beside_lem c.args.other_zero c.args.t.now) c.in-Pointer.is ∙ pointer_beside_of_pointer c.args.other_zero c.args.t.now _))
    c.pointer_if-in-Pointer.ensures
