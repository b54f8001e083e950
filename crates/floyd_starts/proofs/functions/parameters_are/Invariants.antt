use Rattle.std.proofs.Common.{◌≡◌, ◌++◌, drop}
use Rattle.floyd_goal_forms.specs.Starts.{parameters_are}
use Rattle.floyd_starts.proofs.functions.parameters_are.Given as goal

abbrev pub invariant-parameters : goal.invariant-parameters
invariant-parameters l = l.all ++ parameters_are (drop l.i l.parameters) (drop l.i l.terms) ≡ parameters_are l.parameters l.terms
