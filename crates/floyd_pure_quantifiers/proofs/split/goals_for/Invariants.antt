use Rattle.std.proofs.Common.{◌≡◌, ◌++◌, drop, map}
use Rattle.floyd_goal.specs.Goals.{pure_goal}
use Rattle.floyd_pure_quantifiers.proofs.split.goals_for.Given as goal

abbrev pub invariant-formulas : goal.invariant-formulas
invariant-formulas l = l.goals ++ map (pure_goal l.context) (drop l.target-index l.all) ≡ map (pure_goal l.context) l.all
