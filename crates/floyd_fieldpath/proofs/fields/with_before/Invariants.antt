use Rattle.std.proofs.Common.{◌≡◌, ◌≤◌, length, drop, Ok}
use Rattle.floyd_fieldpath.specs.UpdateClauses.{with_before}
use Rattle.floyd_fieldpath.proofs.fields.with_before.Given as goal

abbrev pub invariant-fields : goal.invariant-fields
invariant-fields g l = record {
  within : l.at ≤ length l.before;
  behind : with_before (drop l.at l.before) l.u ≡ Ok l.value;
}

abbrev pub decreases-fields : goal.decreases-fields
decreases-fields g l = l.at
