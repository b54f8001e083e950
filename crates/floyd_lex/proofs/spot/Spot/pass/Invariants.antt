use Rattle.std.proofs.Common.{◌-◌, ◌≤◌, length}
use Rattle.floyd_lex.specs.SpotClauses.{IsSpot}
use Rattle.floyd_lex.proofs.spot.Spot.pass.Given as goal

abbrev pub invariant-each : goal.invariant-each
invariant-each l = record {
  spot : IsSpot l.bytes l.spot;
  before : l.spot.at ≤ l.end;
  within : l.end ≤ length l.bytes;
}

abbrev pub decreases-each : goal.decreases-each
decreases-each l = l.end - l.spot.at
