use Rattle.std.proofs.Common.{◌≡◌, ◌≤◌, length, drop, Ok}
use Rattle.floyd_fieldpath.specs.UpdateClauses.{within_levels}
use Rattle.floyd_fieldpath.proofs.updates.within_levels.Given as goal

abbrev pub invariant-levels : goal.invariant-levels
invariant-levels g l = record {
  within : l.at ≤ length l.levels;
  behind : within_levels l.structs (drop l.at l.levels) l.new ≡ Ok l.value;
}

abbrev pub decreases-levels : goal.decreases-levels
decreases-levels g l = l.at
