use Rattle.std.proofs.Common.{◌≡◌, ◌<◌, length, drop, Ok}
use Rattle.floyd_arrays_structs.specs.JoinStruct.{pairs}
use Rattle.floyd_arrays_structs.proofs.join_struct.pairs.Given as goal

abbrev pub invariant-fields : goal.invariant-fields
invariant-fields g l = record {
  within : l.at < length l.values;
  behind : pairs (drop l.at l.values) ≡ Ok l.value;
}

abbrev pub decreases-fields : goal.decreases-fields
decreases-fields g l = l.at
