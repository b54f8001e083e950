use Rattle.std.proofs.Common.{◌≡◌, take, Some}
use Rattle.floyd_tree.specs.Plain.{plains}
use Rattle.floyd_tree.specs.WellSorted.{sorts_of}
use Rattle.floyd_tree.proofs.term.sorts.Given as goal

abbrev pub invariant-terms : goal.invariant-terms
invariant-terms l = sorts_of (plains (take l.term-index l.terms)) ≡ Some l.all.items
