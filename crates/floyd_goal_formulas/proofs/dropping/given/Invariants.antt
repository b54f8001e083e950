use Rattle.std.proofs.Common.{◌↔◌, drop}
use Rattle.floyd_goal_formulas.specs.Drops.{Given}
use Rattle.floyd_goal_formulas.proofs.dropping.given.Given as goal

abbrev pub invariant-hypotheses : goal.invariant-hypotheses
invariant-hypotheses l = Given (drop l.h-index l.hs) l.f ↔ Given l.hs l.f
