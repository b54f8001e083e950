use Rattle.std.proofs.Common.{◌≡◌, map, take, drop}
use Rattle.floyd_arith.specs.Linear.{times, all_small}
use Rattle.floyd_arith.proofs.unknowns.scaled_unknowns.Given as goal

abbrev pub invariant-unknowns : goal.invariant-unknowns
invariant-unknowns l = record {
  done : l.all.items ≡ map (times l.k) (take l.unknown-index l.unknowns);
  small : all_small (map (times l.k) (drop l.unknown-index l.unknowns)) ≡ all_small (map (times l.k) l.unknowns);
}
