use Rattle.floyd_specread_items.proofs.VariableLemmas.{from_nothing}
use Rattle.floyd_specread_items.proofs.variables.argument_variables.Goals as goal

pub returns : goal.returns
returns c = from_nothing c.args.arguments.now c.new-bound.result c.bind_all.new.bound c.new-bound.ensures c.in_ok-bind_all.ensures
