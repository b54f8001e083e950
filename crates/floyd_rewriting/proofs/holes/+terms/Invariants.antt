use Rattle.std.proofs.Common.{◌≡◌, ◌+◌, ◌*◌, ◌++◌, ◌||◌, drop, map}
use Rattle.floyd_tree.specs.Plain.{height, heights, plains}
use Rattle.floyd_rewriting.specs.Holes.{opened}
use Rattle.floyd_rewriting.specs.Occurrences.{occurs_in}
use Rattle.floyd_rewriting.proofs.holes.+terms.Given as goal

abbrev pub decreases-open_term : goal.decreases-open_term
decreases-open_term g l = 2 * height l.t.now

abbrev pub decreases-open_terms : goal.decreases-open_terms
decreases-open_terms g l = 2 * heights (plains l.terms.now) + 1

abbrev pub invariant-open_terms-terms : goal.invariant-open_terms-terms
invariant-open_terms-terms g l = record {
  items : l.all.items ++ map (opened l.from l.hole) (drop l.term-index l.terms) ≡ map (opened l.from l.hole) l.terms;
  changed : (l.changed || occurs_in l.from (plains (drop l.term-index l.terms))) ≡ occurs_in l.from (plains l.terms);
}
