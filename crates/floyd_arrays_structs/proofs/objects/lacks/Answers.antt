use Rattle.floyd_arrays_structs.proofs.ObjectLemmas.{nowhere, there, unlike_more}
use Rattle.floyd_arrays_structs.proofs.objects.lacks.Goals as goal

pub parts-preserved : goal.parts-preserved
parts-preserved c =
    unlike_more c.args.part.now c.args.parts.now c.parts.other-index c.other-item.result c.equal_part.result c.parts-test.true c.other-item.is c.equal_part.ensures c.if-equal_part.false c.parts.invariant

pub returns-then-equal_part : goal.returns-then-equal_part
returns-then-equal_part c =
    there c.args.part.now c.args.parts.now c.parts.other-index c.other-item.result c.equal_part.result c.parts-test.true c.other-item.is c.equal_part.ensures c.if-equal_part.true

pub returns : goal.returns
returns c = nowhere c.args.part.now c.args.parts.now c.parts.other-index c.parts-test.false c.parts.invariant
