use Rattle.floyd_goal_forms.specs.Starts.{parameters_are}
use Rattle.floyd_starts.proofs.StartLemmas.{ended}
use Rattle.floyd_starts.proofs.functions.parameters_are.Goals as goal

pub returns-in_default : goal.returns-in_default
returns-in_default c =
    ended c.args.parameters.now c.args.terms.now c.parameters.i c.parameters.all (parameters_are c.args.parameters.now c.args.terms.now) c.in_default.ensures.lookup.3 c.parameters.invariant
