use Rattle.std.proofs.Common.{Err}
use Rattle.floyd_arrays_structs.proofs.ObjectLemmas.{no_value, value_on}
use Rattle.floyd_arrays_structs.proofs.objects.value_at.Goals as goal

pub parts-init : goal.parts-init
parts-init c = λ value h. h

pub parts-preserved : goal.parts-preserved
parts-preserved c = λ value h.
    c.parts.invariant value (value_on c.args.region.now c.args.parts.now c.parts.part-index c.part-item.result value c.parts-test.true c.part-item.is c.in_default.ensures h)

pub returns : goal.returns
returns c = record { exact = c.parts.invariant (Err c.wrong_goal.result) (no_value c.args.region.now c.args.parts.now c.parts.part-index c.wrong_goal.result c.parts-test.false c.wrong_goal.ensures) }
