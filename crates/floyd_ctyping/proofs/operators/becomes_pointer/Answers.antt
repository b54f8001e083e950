use Rattle.std.proofs.Common.{ap, sym, ◌∙◌}
use Rattle.floyd_ctyping.specs.Operators.{joins as joins_lem, becomes_pointer as becomes_pointer_lem}
use Rattle.floyd_ctyping.proofs.OperatorLemmas.{becomes_pointer_of_pointer}
use Rattle.floyd_ctyping.proofs.operators.becomes_pointer.Goals as goal

pub returns-in-Pointer : goal.returns-in-Pointer
returns-in-Pointer c =
    c.joins.ensures ∙ ap (joins_lem c.args.t.now) c.get.ensures
    ∙ sym (ap (becomes_pointer_lem c.args.t.now c.args.zero) c.in-Pointer.is ∙ becomes_pointer_of_pointer c.args.t.now c.args.zero _)
