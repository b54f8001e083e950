use Rattle.floyd_elab.proofs.UnitLemmas.{variables_are}
use Rattle.floyd_elab.proofs.units.variables_of.Goals as goal

pub returns : goal.returns
returns c =
    variables_are c.args.defined c.args.mentioned c.put_back.new.variables c.in_ok-only.only c.into_items-variables.result
    c.into_items-variables.ensures c.in_ok-only.ensures c.in_ok-put_back.ensures
