-- What the code of `forward_loop` is given.
use Rattle.floyd_control.specs.declared.looping.Given as code
use Rattle.floyd_control.specs.ForwardLoop.{Given}

abbrev pub given : code.Given → Given
given g = record { invariant = g.invariant.now; between = g.between.now; left = g.left.now }
