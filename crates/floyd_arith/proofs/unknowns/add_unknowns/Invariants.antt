use Rattle.std.proofs.Common.{◌≡◌, map, drop, true}
use Rattle.floyd_arith.specs.Linear.{times, with_unknowns, all_small}
use Rattle.floyd_arith.specs.LinearClauses.{AreApart}
use Rattle.floyd_arith.proofs.unknowns.add_unknowns.Given as goal

abbrev pub invariant-more : goal.invariant-more
invariant-more l = record {
  sum : with_unknowns l.unknowns (map (times l.k) (drop l.unknown-index l.more)) ≡ with_unknowns l.initial.unknowns (map (times l.k) l.more);
  small : all_small l.unknowns ≡ true;
  apart : AreApart (drop l.unknown-index l.more);
}
