use Rattle.floyd_symexpr_pointers.proofs.OperatorLemmas.{array_gives, pointer_gives}
use Rattle.floyd_symexpr_pointers.proofs.operators.operand.Goals as goal

pub returns-in-Pointer : goal.returns-in-Pointer
returns-in-Pointer c = record { exact = pointer_gives _ _ c.args.t.now c.in-Pointer.to c.get.result.now c.args.v.now c.in-Pointer.is c.get.ensures c.address.ensures.exact }

pub returns-in-Array : goal.returns-in-Array
returns-in-Array c =
    record { exact = array_gives _ _ c.args.t.now c.in-Array.element c.get-in-Array.result.now c.in-Array.field-1 c.args.v.now c.in-Array.is c.get-in-Array.ensures c.address-in-Array.ensures.exact }
