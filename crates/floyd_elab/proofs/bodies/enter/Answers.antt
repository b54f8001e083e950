use Rattle.floyd_elab.proofs.BodyLemmas.{next_wider, last_wider}
use Rattle.floyd_elab.proofs.bodies.enter.Goals as goal

pub parameters-preserved : goal.parameters-preserved
parameters-preserved c =
    next_wider c.parameters.names c.declare.new.names c.args.parameters.now c.parameters.parameter-index c.parameter-item.result _
    c.parameters-test.true c.parameter-item.is c.in_ok-declare.ensures c.parameters.invariant

pub returns : goal.returns
returns c = last_wider c.parameters.names c.args.parameters.now c.parameters.parameter-index _ c.parameters-test.false c.parameters.invariant
