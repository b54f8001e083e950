use Rattle.std.proofs.Common.{◌≡◌, ◌+◌, ◌≤◌, min, max, drop}
use Rattle.floyd_tree.specs.Plain.{plains, sizes, heights}
use Rattle.floyd_tree.proofs.term.bounds.Given as goal

abbrev pub invariant-terms : goal.invariant-terms
invariant-terms l = record {
  size : min (l.all + sizes (plains (drop l.term-index l.terms))) 65537 ≡ min (sizes (plains l.terms)) 65537;
  height : max l.most (heights (plains (drop l.term-index l.terms))) ≡ heights (plains l.terms);
  small : l.all ≤ 65537;
  low : l.most ≤ 256;
}
