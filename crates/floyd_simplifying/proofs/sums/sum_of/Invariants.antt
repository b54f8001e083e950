use Rattle.std.proofs.Common.{◌≡◌, ◌≤◌, drop}
use Rattle.std.specs.Prelude.{option_map, unsigned_abs}
use Rattle.floyd_simplifying.specs.SumClauses.{whole}
use Rattle.floyd_simplifying.specs.WrittenLists.{numbers_of, total}
use Rattle.floyd_simplifying.proofs.Summing.{added}
use Rattle.floyd_simplifying.proofs.sums.sum_of.Given as goal

abbrev pub invariant-items : goal.invariant-items
invariant-items l = record {
  total : added (whole l.sum) (drop l.item-index l.items) ≡ option_map total (numbers_of l.items);
  near : unsigned_abs l.sum.high ≤ l.item-index;
}
