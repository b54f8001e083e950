use Rattle.std.proofs.Common.{◌≡◌, drop}
use Rattle.floyd_tree.specs.Plain.{plains}
use Rattle.floyd_tree.specs.Prints.{prints_from}
use Rattle.floyd_tree.proofs.term.prints_onto.Given as goal

abbrev pub invariant-terms : goal.invariant-terms
invariant-terms l = prints_from l.print (plains (drop l.term-index l.terms)) ≡ prints_from l.start (plains l.terms)
